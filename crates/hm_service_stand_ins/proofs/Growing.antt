-- Good texts and stand-ins, while a loop adds them.
use Rattle.std.proofs.Common.{◌≡◌, ◌∙◌, ◌+◌, ◌<◌, ℕ, List, [], ◌∷◌, ◌++◌, Option, None, Some, arith, ap, get_or, inl, inr, length, length-append, subst, sym}
use Rattle.std.proofs.lemmas.Bool.{cases_lt}
use Rattle.std.proofs.lemmas.List.{get_or-map}
use Rattle.hm_service_sources.specs.HeldSets.{standing_of}
use Rattle.hm_service_sources.specs.declared.held.HeldSource.{HeldSource}
use Rattle.hm_service_stand_ins.specs.Findings.{Findings}
use Rattle.hm_service_stand_ins.specs.GoodTexts.{AreGoodAfter, IsGoodAfter}
use Rattle.hm_service_stand_ins.specs.StandIns.{AreStandIns, IsSameAt, IsStandIn}
use Rattle.hm_service_stand_ins.proofs.Each.{each_more}

-- the last good texts of the first n sources
pub record AreGoodBelow (f : Findings) (held : List HeldSource) (before : List (Option (List ℕ))) (n : ℕ) (after : List (Option (List ℕ))) : Type 0 where
  pub as_many : length after ≡ n
  pub each : (k : ℕ) (h : HeldSource) → k < n → IsGoodAfter f k (get_or held k h) (get_or before k None) (get_or after k None)

pub good_begin : (f : Findings) (held : List HeldSource) (before after : List (Option (List ℕ))) → after ≡ [] → AreGoodBelow f held before 0 after
good_begin f held before after none = record { as_many = ap length none; each = λ k h below. absurd (omega (arith, below)) }

pub good_more : (f : Findings) (held : List HeldSource) (before : List (Option (List ℕ))) (n : ℕ) (h : HeldSource) (old new : List (Option (List ℕ))) (text : Option (List ℕ)) → n < length held → h ≡ get_or held n h
    → IsGoodAfter f n h (get_or before n None) text → new ≡ old ++ text ∷ [] → AreGoodBelow f held before n old → AreGoodBelow f held before (n + 1) new
good_more f held before n h old new text low at here pushed so_far = subst (AreGoodBelow f held before (n + 1)) (sym pushed) (record {
  as_many = omega (arith, so_far.as_many, length-append old (text ∷ []));
  each = each_more (λ k g t. IsGoodAfter f k g (get_or before k None) t) held old n h text None so_far.as_many low at here so_far.each;
})

pub good_end : (f : Findings) (held : List HeldSource) (before : List (Option (List ℕ))) (n : ℕ) (after : List (Option (List ℕ))) → n ≡ length held → AreGoodBelow f held before n after → AreGoodAfter f held before after
good_end f held before n after ends h = record { as_many = h.as_many ∙ ends; each = λ k s below. h.each k s (subst (λ (m : ℕ). k < m) (sym ends) below) }

-- the stand-ins of the first n sources
pub record AreStandInsBelow (f : Findings) (held : List HeldSource) (good : List (Option (List ℕ))) (n : ℕ) (set : List HeldSource) : Type 0 where
  pub as_many : length set ≡ n
  pub each : (k : ℕ) (h s : HeldSource) → k < n → IsStandIn f k (get_or held k h) (get_or good k None) (get_or set k s)

pub set_begin : (f : Findings) (held : List HeldSource) (good : List (Option (List ℕ))) (set : List HeldSource) → set ≡ [] → AreStandInsBelow f held good 0 set
set_begin f held good set none = record { as_many = ap length none; each = λ k h s below. absurd (omega (arith, below)) }

pub set_more : (f : Findings) (held : List HeldSource) (good : List (Option (List ℕ))) (n : ℕ) (h : HeldSource) (old new : List HeldSource) (s : HeldSource) → n < length held → h ≡ get_or held n h → IsStandIn f n h (get_or good n None) s
    → new ≡ old ++ s ∷ [] → AreStandInsBelow f held good n old → AreStandInsBelow f held good (n + 1) new
set_more f held good n h old new s low at here pushed so_far = subst (AreStandInsBelow f held good (n + 1)) (sym pushed) (record {
  as_many = omega (arith, so_far.as_many, length-append old (s ∷ []));
  each = λ k d e below. each_more (λ j g t. IsStandIn f j g (get_or good j None) t) held old n h s e so_far.as_many low at here (λ j g less. so_far.each j g e less) k d below;
})

pub set_end : (f : Findings) (held : List HeldSource) (good : List (Option (List ℕ))) (n : ℕ) (set : List HeldSource) → n ≡ length held → AreStandInsBelow f held good n set → AreStandIns f held good set
set_end f held good n set ends h = record { as_many = h.as_many ∙ ends; each = λ k d e below. h.each k d e (subst (λ (m : ℕ). k < m) (sym ends) below) }

standing_at : (held : List HeldSource) (n : ℕ) (h : HeldSource) → n < length held → get_or (standing_of held) n [] ≡ (get_or held n h).standing.items
standing_at held n h low = get_or-map (λ (g : HeldSource). g.standing.items) held n h [] low

pub same_at : (held set : List HeldSource) (n : ℕ) (h s : HeldSource) → n < length held → n < length set → (get_or set n s).standing.items ≡ (get_or held n h).standing.items → IsSameAt held set n
same_at held set n h s low inside same = standing_at set n s inside ∙ (same ∙ sym (standing_at held n h low))

-- the same texts, up to one more source
pub same_more : (held set : List HeldSource) (n : ℕ) → IsSameAt held set n → ((k : ℕ) → k < n → IsSameAt held set k) → (k : ℕ) → k < n + 1 → IsSameAt held set k
same_more held set n here before k below = elim (cases_lt k n) [
  | inl less ↦ before k less
  | inr past ↦ let last : k ≡ n = omega (arith, past, below) in subst (IsSameAt held set) (sym last) here
]

abbrev text_in : Option (List ℕ) → List ℕ
text_in None = []
text_in (Some text) = text

pub one_text : (o : Option (List ℕ)) (a b : List ℕ) → o ≡ Some a → o ≡ Some b → a ≡ b
one_text o a b p q = ap text_in (sym p ∙ q)
