-- Identifiers of requests.
use Rattle.std.proofs.Common.{◌≡◌, ◌∙◌, ◌≤◌, ℕ, ℤ, All, List, Option, None, Some, length, subst, sym, take}
use Rattle.std.proofs.lemmas.List.{take_all}
use Rattle.std.specs.List.{Any}
use Rattle.serde_json.specs.Data.{Data, array, boolean, null, number, object, string}
use Rattle.serde_json.specs.Find.{as_str}
use Rattle.hm_lsp_session.specs.Cancelled.{IsOfId, IsSameId, number_of, numbers, texts}

no_text : (t : List ℕ) → None ≡ Some t → ⊥
no_text t e = cc

no_number : (n : ℤ) → None ≡ Some n → ⊥
no_number n e = cc

-- a number is no text
apart : (d : Data) (n : ℤ) (t : List ℕ) → number_of d ≡ Some n → as_str d ≡ Some t → ⊥
apart null n t e f = no_number n e
apart (boolean b) n t e f = no_number n e
apart (number m) n t e f = no_text t f
apart (string s) n t e f = no_number n e
apart (array ds) n t e f = no_number n e
apart (object ms) n t e f = no_number n e

one_number : (found : Option ℤ) (a b : ℤ) → found ≡ Some a → found ≡ Some b → a ≡ b
one_number found a b e f = cc

one_text : (found : Option (List ℕ)) (a b : List ℕ) → found ≡ Some a → found ≡ Some b → a ≡ b
one_text found a b e f = cc

pub by_number : (a b : Data) (n : ℤ) → number_of a ≡ Some n → IsSameId a b → number_of b ≡ Some n
by_number a b n is (numbers {n = m} e f) = f ∙ (let same : m ≡ n = one_number (number_of a) m n e is in same_some m n same)
  where
    same_some : (m n : ℤ) → m ≡ n → Some m ≡ Some n
    same_some m n e = cc
by_number a b n is (texts {t = t} e f) = absurd (apart a n t is e)

pub by_text : (a b : Data) (t : List ℕ) → as_str a ≡ Some t → IsSameId a b → as_str b ≡ Some t
by_text a b t is (numbers {n = n} e f) = absurd (apart a n t e is)
by_text a b t is (texts {t = u} e f) = f ∙ (let same : u ≡ t = one_text (as_str a) u t e is in same_some u t same)
  where
    same_some : (m n : List ℕ) → m ≡ n → Some m ≡ Some n
    same_some m n e = cc

pub neither : (a b : Data) → number_of a ≡ None → as_str a ≡ None → IsSameId a b → ⊥
neither a b one two (numbers {n = n} e f) = no_number n (sym one ∙ e)
neither a b one two (texts {t = t} e f) = no_text t (sym two ∙ e)

-- none of the messages gone through has the identifier
pub none_of_id : (ms all : List Data) (i : ℕ) (id : Data) → ms ≡ all → length ms ≤ i → All (λ m. ¬ (IsOfId id m)) (take i ms) → Any (IsOfId id) all → ⊥
none_of_id ms all i id is ends none (k, m, within, at, same) =
    subst (λ (l : List Data). All (λ m. ¬ (IsOfId id m)) l) (take_all i ms ends ∙ is) none k m within (subst (λ (x : Data). IsOfId id x) (sym at) same)
