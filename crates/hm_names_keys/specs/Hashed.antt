-- The bytes that a key writes to a hasher. No clause names this.
use Rattle.std.specs.Prelude.{ℕ, Bool, true, false, ◌&&◌, List, [], ◌∷◌, Option, None, Some}
use Rattle.std.specs.Borrow.{Bor}
use Rattle.std.proofs.Common.{◌≡◌, refl, ap, ◌∙◌, bytes_eq}
use Rattle.std.proofs.lemmas.Bool.{both_ways}
use Rattle.std.proofs.lemmas.Slice.Eq.{bytes_eq-Decides}
use Rattle.hm_names_keys.specs.declared.lent_names.LentName.{LentName}
use Rattle.hm_names_keys.specs.contracts.lent_names.LentNamePartialEq as LentNamePartialEq

-- the text after its qualifier, if it has one
abbrev pub writes_behind : Option (Bor (List ℕ)) → Bor (List ℕ) → List (List ℕ)
writes_behind None t = t.now ∷ []
writes_behind (Some q) t = q.now ∷ t.now ∷ []

abbrev pub writes_of : LentName → List (List ℕ)
writes_of k = writes_behind k.qualifier k.text

-- Equal keys write the same bytes

first_true : (a b : Bool) → (a && b) ≡ true → a ≡ true
first_true true b e = refl
first_true false b e = absurd (both_ways false refl e)

second_true : (a b : Bool) → (a && b) ≡ true → b ≡ true
second_true true b e = e
second_true false b e = absurd (both_ways false refl e)

same_parts : (p : Option (Bor (List ℕ))) (x : Bor (List ℕ)) (q : Option (Bor (List ℕ))) (y : Bor (List ℕ)) →
    (LentNamePartialEq.TheImpl.eq-value).it (record { qualifier = p; text = x }) (record { qualifier = q; text = y }) ≡ true → writes_behind p x ≡ writes_behind q y
same_parts None x None y e = ap (λ t. t ∷ []) ((bytes_eq-Decides x.now y.now).0 e)
same_parts None x (Some q) y e = absurd (both_ways false refl e)
same_parts (Some p) x None y e = absurd (both_ways false refl e)
same_parts (Some p) x (Some q) y e =
    let behind = (bytes_eq-Decides p.now q.now).0 (first_true (bytes_eq p.now q.now) (bytes_eq x.now y.now) e) in
    let text = (bytes_eq-Decides x.now y.now).0 (second_true (bytes_eq p.now q.now) (bytes_eq x.now y.now) e) in
    ap (λ t. p.now ∷ t ∷ []) text ∙ ap (λ z. z ∷ y.now ∷ []) behind

pub same_writes : (x y : LentName) → (LentNamePartialEq.TheImpl.eq-value).it x y ≡ true → writes_of x ≡ writes_of y
same_writes x y e = same_parts x.qualifier x.text y.qualifier y.text e
