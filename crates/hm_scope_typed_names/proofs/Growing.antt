-- Names that pass a test, with one more.
use Rattle.std.proofs.Common.{◌≡◌, Bool, true, false, cond, List, [], ◌∷◌, ◌++◌, ◌↔◌, Contains, inl, inr, refl, sym, ap, subst, ◌∙◌}
use Rattle.std.proofs.lemmas.Bool.{cond-false, cond-true}
use Rattle.std.proofs.lemmas.List.{append-nil}
use Rattle.std.proofs.lemmas.List.Elements.{filter-append}
use Rattle.std.specs.List.{AllZip, filter}
use Rattle.hm_names.specs.Bindings.{Pair}
use Rattle.hm_names.proofs.Members.{cases, first, none_in, rest}
use Rattle.hm_scope_names.specs.Meant.{AreApart, HaveOneName}

zip_pushed : {X Y : Type 0} (P : X → Y → Type 0) (xs : List X) (ys : List Y) (x : X) (y : Y) → AllZip P xs ys → P x y → AllZip P (xs ++ x ∷ []) (ys ++ y ∷ [])
zip_pushed P [] [] x y h own = (own, tt)
zip_pushed P [] (z ∷ ys) x y h own = absurd h
zip_pushed P (w ∷ xs) [] x y h own = absurd h
zip_pushed P (w ∷ xs) (z ∷ ys) x y h own = (h.0, zip_pushed P xs ys x y h.1 own)

-- one that passes is added
pub passed : {X Y : Type 0} (P : X → Y → Type 0) (f : X → Bool) (done : List X) (x : X) (old new : List Y) (y : Y) → f x ≡ true → P x y → new ≡ old ++ y ∷ [] → AllZip P (filter f done) old → AllZip P (filter f (done ++ x ∷ [])) new
passed P f done x old new y passes own pushed before =
    let members : filter f (done ++ x ∷ []) ≡ filter f done ++ x ∷ [] = filter-append f done (x ∷ []) ∙ ap (λ l. filter f done ++ l) (cond-true _ _ _ passes) in
    subst (λ l. AllZip P l new) (sym members) (subst (λ l. AllZip P (filter f done ++ x ∷ []) l) (sym pushed) (zip_pushed P (filter f done) old x y before own))

-- one that doesn't is left out
pub failed : {X Y : Type 0} (P : X → Y → Type 0) (f : X → Bool) (done : List X) (x : X) (ys : List Y) → f x ≡ false → AllZip P (filter f done) ys → AllZip P (filter f (done ++ x ∷ [])) ys
failed P f done x ys fails before =
    let members : filter f (done ++ x ∷ []) ≡ filter f done = filter-append f done (x ∷ []) ∙ ap (λ l. filter f done ++ l) (cond-false _ _ _ fails) ∙ append-nil (filter f done) in
    subst (λ l. AllZip P l ys) (sym members) before

module _ (f : Pair → Bool) where
  one_kept : (b : Bool) (x : Pair) (xs : List Pair) (p : Pair) → f x ≡ b → (Contains (filter f xs) p → Contains xs p × (f p ≡ true)) → Contains (cond b (x ∷ filter f xs) (filter f xs)) p → Contains (x ∷ xs) p × (f p ≡ true)
  one_kept true x xs p e later c = elim (cases x (filter f xs) p c) [
    | inl is ↦ (subst (λ (z : Pair). Contains (x ∷ xs) z) (sym is) (first x xs), ap f is ∙ e)
    | inr below ↦ (rest x xs p (later below).0, (later below).1)
  ]
  one_kept false x xs p e later c = (rest x xs p (later c).0, (later c).1)

  kept : (xs : List Pair) (p : Pair) → Contains (filter f xs) p → Contains xs p × (f p ≡ true)
  kept [] p c = absurd (none_in p c)
  kept (x ∷ xs) p c = one_kept (f x) x xs p refl (kept xs p) c

  one_keeps : (b : Bool) (x : Pair) (xs : List Pair) (p : Pair) → f x ≡ b → (Contains xs p → Contains (filter f xs) p) → Contains (x ∷ xs) p → f p ≡ true → Contains (cond b (x ∷ filter f xs) (filter f xs)) p
  one_keeps true x xs p e later c passes = elim (cases x xs p c) [
    | inl is ↦ subst (λ (z : Pair). Contains (x ∷ filter f xs) z) (sym is) (first x (filter f xs))
    | inr below ↦ rest x (filter f xs) p (later below)
  ]
  one_keeps false x xs p e later c passes = elim (cases x xs p c) [
    | inl is ↦ let never : true ≡ false = sym passes ∙ (ap f is ∙ e) in absurd (cc)
    | inr below ↦ later below
  ]

  keeps : (xs : List Pair) (p : Pair) → Contains xs p → f p ≡ true → Contains (filter f xs) p
  keeps [] p c passes = absurd (none_in p c)
  keeps (x ∷ xs) p c passes = one_keeps (f x) x xs p refl (λ d. keeps xs p d passes) c passes

  one_apart : (b : Bool) (x : Pair) (xs : List Pair) → ((q : Pair) → Contains xs q → ¬ (HaveOneName x q)) → AreApart (filter f xs) → AreApart (cond b (x ∷ filter f xs) (filter f xs))
  one_apart true x xs other later = (λ q c. other q (kept xs q c).0, later)
  one_apart false x xs other later = later

  -- pairs that are apart stay so
  pub still_apart : (xs : List Pair) → AreApart xs → AreApart (filter f xs)
  still_apart [] apart = tt
  still_apart (x ∷ xs) apart = one_apart (f x) x xs apart.0 (still_apart xs apart.1)

  -- exactly those that pass are kept
  pub exactly : (Q : Pair → Type 0) (xs : List Pair) → ((p : Pair) → Contains xs p ↔ Q p) → (p : Pair) → Contains (filter f xs) p ↔ (Q p × (f p ≡ true))
  exactly Q xs exact p = (λ c. ((exact p).0 (kept xs p c).0, (kept xs p c).1), λ h. keeps xs p ((exact p).1 h.0) h.1)
