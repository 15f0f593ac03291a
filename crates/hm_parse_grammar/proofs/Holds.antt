-- What holds of the answer of a reader, where it has one.
use Rattle.std.proofs.Common.{◌≡◌, ◌⊎◌, inl, inr, List, [], ◌∷◌, Bool, true, false, Option, Some, None, refl, sym, ◌∙◌, cond, eqb-true}
use Rattle.hm_parse_grammar.specs.declared.symbol.Symbol.{Symbol}
use Rattle.hm_parse_grammar.specs.declared.symbol.Symbol.TheVariants.{Con, QCon}
use Rattle.hm_parse_grammar.specs.Symbols.{same, number_inj, is_qcon}
use Rattle.hm_syntax.specs.Names.{Identifier}
use Rattle.hm_parse_grammar.specs.Tokens.{Terminal, modid_of}
use Rattle.hm_parse_grammar.specs.Grammar.Marks.{IsQcon}
use Rattle.hm_parse_grammar.specs.Reading.Basics.{◌>>=◌, is_at, tail, expect, modid_at, item_end}

pub record Holds {A : Type 0} (P : A → Type 0) (a : Option A) : Type 0 where
  pub holds : (x : A) → a ≡ Some x → P x

pub same_true : (a b : Symbol) → same a b ≡ true → a ≡ b
same_true a b e = number_inj a b (eqb-true _ _ e)

pub qcon_is : (s : Symbol) → is_qcon s ≡ true → (s ≡ Con) ⊎ (s ≡ QCon)
qcon_is Con e = inl refl
qcon_is QCon e = inr refl
qcon_is _ e = cc

module _ {A : Type 0} {P : A → Type 0} where
  pub holds_none : Holds P None
  holds_none = record { holds = λ x e. cc }

  pub holds_some : (x : A) → P x → Holds P (Some x)
  holds_some x p = record { holds = λ y e. let same : x ≡ y = cc in rw (← same) p }

  pub holds_if : (c : Bool) (a b : Option A) → (c ≡ true → Holds P a) → (c ≡ false → Holds P b) → Holds P (cond c a b)
  holds_if true a b f g = f refl
  holds_if false a b f g = g refl

module _ {A B : Type 0} {P : A → Type 0} {Q : B → Type 0} where
  pub holds_then : (a : Option A) (f : A → Option B) → Holds P a → ((x : A) → P x → Holds Q (f x)) → Holds Q (a >>= f)
  holds_then None f h k = holds_none
  holds_then (Some x) f h k = k x (h.holds x refl)

-- the same reading, of which more is known
module _ {A : Type 0} {P Q : A → Type 0} where
  pub holds_more : {a : Option A} → Holds P a → ((x : A) → P x → Q x) → Holds Q a
  holds_more h k = record { holds = λ x e. k x (h.holds x e) }

module _ {B : Type 0} {Q : B → Type 0} where
  -- a token that has to come
  pub holds_expect : (s : Symbol) (ts : List Terminal) (f : List Terminal → Option B) →
      ((m : Terminal) (us : List Terminal) → ts ≡ m ∷ us → m.symbol ≡ s → Holds Q (f us)) → Holds Q (expect s ts >>= f)
  holds_expect s [] f k = holds_none
  holds_expect s (m ∷ us) f k = chosen (same m.symbol s) refl
    where
      chosen : (c : Bool) → same m.symbol s ≡ c → Holds Q (cond c (Some us) None >>= f)
      chosen true e = k m us refl (same_true _ _ e)
      chosen false e = holds_none

  pub holds_modid : (ts : List Terminal) (f : Identifier × List Terminal → Option B) →
      ((m : Terminal) (us : List Terminal) → ts ≡ m ∷ us → IsQcon m → Holds Q (f (modid_of m, us))) → Holds Q (modid_at ts >>= f)
  unfolding modid_at
  holds_modid [] f k = holds_none
  holds_modid (m ∷ us) f k = chosen (is_qcon m.symbol) refl
    where
      chosen : (c : Bool) → is_qcon m.symbol ≡ c → Holds Q (cond c (Some (modid_of m, us)) None >>= f)
      chosen true e = k m us refl (qcon_is _ e)
      chosen false e = holds_none

  -- past a separator, or before the end
  pub holds_end : (s t : Symbol) (ts : List Terminal) (f : List Terminal → Option B) → is_at s [] ≡ false →
      ((m : Terminal) (us : List Terminal) → ts ≡ m ∷ us → m.symbol ≡ s → Holds Q (f us)) →
      (is_at t ts ≡ true → Holds Q (f ts)) → Holds Q (item_end s t ts >>= f)
  unfolding item_end
  holds_end s t ts f z k h = chosen (is_at s ts) refl
    where
      later : (d : Bool) → is_at t ts ≡ d → Holds Q (cond d (Some ts) None >>= f)
      later true e = h e
      later false e = holds_none

      first : (us : List Terminal) → is_at s us ≡ true → ts ≡ us → Holds Q (f (tail us))
      first [] e q = let clash : true ≡ false = sym e ∙ z in cc
      first (m ∷ us) e q = k m us q (same_true _ _ e)

      chosen : (c : Bool) → is_at s ts ≡ c → Holds Q (cond c (Some (tail ts)) (cond (is_at t ts) (Some ts) None) >>= f)
      chosen true e = first ts e refl
      chosen false e = later (is_at t ts) refl
