-- Numbers of a held set and their texts.
use Rattle.std.proofs.Common.{◌≡◌, ℕ, ◌+◌, ◌<◌, All, Bool, List, [], ◌∷◌, ◌++◌, Vec, Global, inl, inr, refl, length, length-append, get_or, map, Contains, ◌↔◌, ap, sym, subst, ◌∙◌, arith}
use Rattle.std.specs.List.Sorted.{IsStrictlyIncreasing}
use Rattle.std.proofs.lemmas.Bool.{cases_lt}
use Rattle.std.proofs.lemmas.List.{get_or-map, get_or_append_left, get_or_default, get_or_push, length-map, same_lists}
use Rattle.hm_graph_components.specs.Marks.{IsMarked}
use Rattle.hm_service_sources.specs.HeldSets.{AreAll, AreUnread, texts_at, texts_of}
use Rattle.hm_service_sources.specs.declared.held.HeldSource.{HeldSource}

-- members that are below a number
pub all_below : (numbers : List ℕ) (n : ℕ) → ((k : ℕ) → Contains numbers k → k < n) → All (λ k. k < n) numbers
all_below numbers n below i d inside = below (get_or numbers i d) (i, inside, get_or_default numbers i (get_or numbers i d) d inside)

module _ (held : List HeldSource) (reads : List Bool) (numbers : List ℕ) (are : reads ≡ map (λ (h : HeldSource). h.is_read) held) (members : (k : ℕ) → Contains numbers k ↔ ((k < length reads) × ¬ (IsMarked reads k))) where
  size : length reads ≡ length held
  size = ap (λ (l : List Bool). length l) are ∙ length-map held (λ (h : HeldSource). h.is_read)

  pub texts_within : (texts : List (Vec ℕ Global)) → map (λ (s : Vec ℕ Global). s.items) texts ≡ texts_of held → All (λ k. k < length texts) numbers
  texts_within texts same =
      let as_many : length texts ≡ length held = sym (length-map texts (λ (s : Vec ℕ Global). s.items)) ∙ (ap (λ (l : List (List ℕ)). length l) same ∙ length-map held (λ (h : HeldSource). h.text.items)) in
      all_below numbers (length texts) (λ k there. let below = ((members k).0 there).0 in omega (arith, below, size, as_many))

  pub unread_are : IsStrictlyIncreasing numbers → AreUnread held numbers
  unread_are ascending = record {
    ascending = ascending;
    members = λ n. (
      λ c. let h = (members n).0 c in let below = h.0 in (omega (arith, below, size), λ mark. h.1 (subst (λ (r : List Bool). IsMarked r n) (sym are) mark)),
      λ h. let below = h.0 in (members n).1 (omega (arith, below, size), λ mark. h.1 (subst (λ (r : List Bool). IsMarked r n) are mark)),
    );
  }

-- all numbers below n
pub all_begin : AreAll 0 []
all_begin = record { as_many = refl; each = λ k below. absurd (omega (arith, below)) }

pub all_more : (n : ℕ) (numbers : List ℕ) → AreAll n numbers → AreAll (n + 1) (numbers ++ n ∷ [])
all_more n numbers so_far = record {
  as_many = omega (arith, so_far.as_many, length-append numbers (n ∷ []));
  each = λ k below. elim (cases_lt k n) [
    | inl less ↦ get_or_append_left numbers (n ∷ []) 0 k (omega (arith, less, so_far.as_many)) ∙ so_far.each k less
    | inr past ↦ let last : k ≡ n = omega arith in get_or_push numbers n 0 k (omega (arith, last, so_far.as_many)) ∙ sym last
  ];
}

pub all_ascending : (n : ℕ) (numbers : List ℕ) → AreAll n numbers → IsStrictlyIncreasing numbers
all_ascending n numbers all k below =
    let here = all.each k (omega (arith, below, all.as_many)) in
    let next = all.each (k + 1) (omega (arith, below, all.as_many)) in
    omega (arith, here, next)

pub all_members : (n : ℕ) (numbers : List ℕ) → AreAll n numbers → (k : ℕ) → Contains numbers k ↔ (k < n)
all_members n numbers all k = (
  λ c. let inside = c.1 in
      let is : k ≡ c.0 = sym c.2 ∙ (get_or_default numbers c.0 k 0 inside ∙ all.each c.0 (omega (arith, inside, all.as_many))) in
      omega (arith, is, inside, all.as_many),
  λ below. let inside : k < length numbers = omega (arith, below, all.as_many) in (k, inside, get_or_default numbers k k 0 inside ∙ all.each k below),
)

pub texts_at_all : (texts : List (List ℕ)) (numbers : List ℕ) → AreAll (length texts) numbers → texts_at texts numbers ≡ texts
texts_at_all texts numbers all =
    same_lists (texts_at texts numbers) texts (length-map numbers (λ n. get_or texts n []) ∙ all.as_many)
    (λ k d below.
    let inside : k < length numbers = omega (arith, below, length-map numbers (λ n. get_or texts n [])) in
    let within : k < length texts = omega (arith, inside, all.as_many) in
    get_or-map (λ n. get_or texts n []) numbers k 0 d inside ∙ (ap (λ n. get_or texts n []) (all.each k within) ∙ get_or_default texts k [] d within))
