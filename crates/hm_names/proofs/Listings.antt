-- Sets that are listed: a list has exactly the elements for which P holds.
use Rattle.std.proofs.Common.{◌≡◌, List, [], ◌∷◌, ◌++◌, ◌⊎◌, ⊎_elim, inl, inr, sym, subst, Contains}
use Rattle.std.specs.Prelude.{◌↔◌}
use Rattle.std.proofs.lemmas.List.Elements.{Contains-append_left, Contains-append_right, Contains-append_cases}
use Rattle.hm_names.proofs.Members.{none_in, cases, first, rest}

pub record Listed {X : Type 0} (P : X → Type 0) : Type 0 where
  pub elements : List X
  pub exactly : (x : X) → Contains elements x ↔ P x

pub same_set : {X : Type 0} (P Q : X → Type 0) → ((x : X) → P x ↔ Q x) → Listed P → Listed Q
same_set P Q f l = record { elements = l.elements; exactly = λ x. (λ c. (f x).0 ((l.exactly x).0 c), λ q. (l.exactly x).1 ((f x).1 q)) }

pub none_listed : {X : Type 0} (P : X → Type 0) → ((x : X) → ¬ (P x)) → Listed P
none_listed P f = record { elements = []; exactly = λ x. (λ c. absurd (none_in x c), λ p. absurd (f x p)) }

pub one_listed : {X : Type 0} (y : X) → Listed (λ x. x ≡ y)
one_listed y = record { elements = y ∷ []; exactly = λ x. (λ c. ⊎_elim (λ e. e) (λ o. absurd (none_in x o)) (cases y [] x c), λ e. subst (Contains (y ∷ [])) (sym e) (first y [])) }

pub list_listed : {X : Type 0} (xs : List X) → Listed (Contains xs)
list_listed xs = record { elements = xs; exactly = λ x. (λ c. c, λ c. c) }

pub either_listed : {X : Type 0} (P Q : X → Type 0) → Listed P → Listed Q → Listed (λ x. P x ⊎ Q x)
either_listed P Q k l = record {
  elements = k.elements ++ l.elements;
  exactly = λ x. (
    (λ c. ⊎_elim (λ o. inl ((k.exactly x).0 o)) (λ o. inr ((l.exactly x).0 o)) (Contains-append_cases k.elements l.elements x c)),
    (λ h. ⊎_elim (λ p. Contains-append_left k.elements l.elements x ((k.exactly x).1 p)) (λ q. Contains-append_right k.elements l.elements x ((l.exactly x).1 q)) h),
  );
}

-- what is of some element of a list
pub some_of : {X Y : Type 0} (Q : X → Y → Type 0) (xs : List X) → ((x : X) → Listed (Q x)) → Listed (λ y. (x : X) × (Contains xs x × Q x y))
some_of Q [] each = none_listed (λ y. (x : _) × (Contains [] x × Q x y)) (λ y h. none_in h.0 h.1.0)
some_of Q (x ∷ xs) each =
    same_set (λ y. Q x y ⊎ ((z : _) × (Contains xs z × Q z y))) (λ y. (z : _) × (Contains (x ∷ xs) z × Q z y))
    (λ y. (
      (λ h. ⊎_elim (λ q. (x, (first x xs, q))) (λ r. (r.0, (rest x xs r.0 r.1.0, r.1.1))) h),
      (λ h. ⊎_elim (λ e. inl (subst (λ w. Q w y) e h.1.1)) (λ o. inr (h.0, (o, h.1.1))) (cases x xs h.0 h.1.0)),
    ))
    (either_listed (Q x) (λ y. (z : _) × (Contains xs z × Q z y)) (each x) (some_of Q xs each))

-- where a decided property holds, and nothing else
pub if_listed : {X : Type 0} (P : X → Type 0) (D : Type 0) → Dec D → Listed P → Listed (λ x. D × P x)
if_listed P D (yes d) l = record { elements = l.elements; exactly = λ x. (λ c. (d, (l.exactly x).0 c), λ h. (l.exactly x).1 h.1) }
if_listed P D (no n) l = none_listed (λ x. D × P x) (λ x h. n h.0)

-- whether some element of a list has a property
pub some_dec : {X : Type 0} (Q : X → Type 0) → ((x : X) → Dec (Q x)) → (xs : List X) → Dec ((x : X) × (Contains xs x × Q x))
some_dec Q d [] = no (λ h. none_in h.0 h.1.0)
some_dec Q d (x ∷ xs) = go (d x) (some_dec Q d xs)
  where
    go : Dec (Q x) → Dec ((z : _) × (Contains xs z × Q z)) → Dec ((z : _) × (Contains (x ∷ xs) z × Q z))
    go (yes q) r = yes (x, (first x xs, q))
    go (no n) (yes r) = yes (r.0, (rest x xs r.0 r.1.0, r.1.1))
    go (no n) (no k) = no (λ h. ⊎_elim (λ e. n (subst Q e h.1.1)) (λ o. k (h.0, (o, h.1.1))) (cases x xs h.0 h.1.0))

pub both_dec : {P Q : Type 0} → Dec P → Dec Q → Dec (P × Q)
both_dec (yes p) (yes q) = yes (p, q)
both_dec (no p) d = no (λ h. p h.0)
both_dec (yes p) (no q) = no (λ h. q h.1)

pub not_dec : {P : Type 0} → Dec P → Dec (¬ P)
not_dec (yes p) = no (λ n. n p)
not_dec (no n) = yes n

pub same_dec : {P Q : Type 0} → (P ↔ Q) → Dec P → Dec Q
same_dec f (yes p) = yes (f.0 p)
same_dec f (no n) = no (λ q. n (f.1 q))
