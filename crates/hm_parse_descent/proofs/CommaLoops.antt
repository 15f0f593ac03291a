-- Tuples and lists, read in a loop.
use Rattle.std.proofs.Common.{◌≡◌, ◌≤◌, List, [], ◌∷◌, ◌++◌, length, true, false, Option, Some, None, refl, ap, ◌∙◌, arith, length-append}
use Rattle.hm_parse_grammar.specs.declared.symbol.Symbol.TheVariants.{Close, CloseSquare, Comma}
use Rattle.hm_parse_grammar.specs.Tokens.{Terminal}
use Rattle.hm_parse_grammar.specs.Reading.Basics.{◌>>=◌, Reader, is_at, tail, expect, loop, behind, next_of, tuple_of}
use Rattle.hm_parse_grammar.proofs.CommaLaws.{le_is, le_not, comma_takes, row_goes_on}
use Rattle.hm_parse_grammar.proofs.Rows.{Steps, loop_takes, ends, fails}

-- the tuple of these components, and what is behind its parenthesis
abbrev pub tuple_end : {A : Type 0} → (List A → A) → Option (List A × List Terminal) → Option (A × List Terminal)
tuple_end make row = do
  xs ← row
  us ← expect Close xs.1
  tuple ← tuple_of make xs.0
  Some (tuple, us)

abbrev pub list_end : {A : Type 0} → (List A → A) → Option (List A × List Terminal) → Option (A × List Terminal)
list_end make row = do
  xs ← row
  us ← expect CloseSquare xs.1
  Some (make xs.0, us)

-- the rest of a tuple, where xs were read
unfoldable pub tuple_rest : {A : Type 0} → Reader A → (List A → A) → List A → Reader A
tuple_rest r make xs ts = tuple_end make (behind xs (loop (next_of r) ts))

-- the rest of a list, where xs were read
unfoldable pub list_rest : {A : Type 0} → Reader A → (List A → A) → List A → Reader A
list_rest r make xs ts = list_end make (behind xs (loop (next_of r) ts))

module _ {A : Type 0} {P : List A → List Terminal → List Terminal → Type 0} (r : Reader A) (s : Steps P (next_of r)) (make : List A → A) where
  comma_fails : (ts : List Terminal) → is_at Comma ts ≡ true → r (tail ts) ≡ None → next_of r ts ≡ None
  unfolding next_of
  comma_fails ts e q = rw (e, q) refl

  comma_stops : (ts : List Terminal) → is_at Comma ts ≡ false → next_of r ts ≡ Some (None, ts)
  unfolding next_of
  comma_stops ts e = rw e refl

  row_ends : (xs : List A) (ts : List Terminal) → is_at Comma ts ≡ false → behind xs (loop (next_of r) ts) ≡ Some (xs, ts)
  row_ends xs ts e = ends s xs ts ts (comma_stops ts e)

  row_fails : (xs : List A) (ts : List Terminal) → is_at Comma ts ≡ true → r (tail ts) ≡ None → behind xs (loop (next_of r) ts) ≡ None
  row_fails xs ts e q = fails s xs ts (comma_fails ts e q)

  pub tuple_goes_on : (xs : List A) (x : A) (ts us : List Terminal) → is_at Comma ts ≡ true → r (tail ts) ≡ Some (x, us) → tuple_rest r make (xs ++ x ∷ []) us ≡ tuple_rest r make xs ts
  unfolding tuple_rest
  tuple_goes_on xs x ts us e q = ap (tuple_end make) (row_goes_on r s xs x ts us e q)

  pub tuple_ends : (xs : List A) (us vs : List Terminal) → is_at Comma us ≡ false → expect Close us ≡ Some vs → length xs ≤ 15 → tuple_rest r make xs us ≡ Some (make xs, vs)
  unfolding tuple_rest
  tuple_ends xs us vs q k few = ap (tuple_end make) (row_ends xs us q) ∙ rw k (rw (le_is (length xs) 15 few) refl)

  pub tuple_open : (xs : List A) (us : List Terminal) → is_at Comma us ≡ false → expect Close us ≡ None → tuple_rest r make xs us ≡ None
  unfolding tuple_rest
  tuple_open xs us q k = ap (tuple_end make) (row_ends xs us q) ∙ rw k refl

  pub tuple_fails : (xs : List A) (us : List Terminal) → is_at Comma us ≡ true → r (tail us) ≡ None → tuple_rest r make xs us ≡ None
  unfolding tuple_rest
  tuple_fails xs us q k = ap (tuple_end make) (row_fails xs us q k)

  -- with as many as are allowed no further comma may come
  pub tuple_many : (xs : List A) (us : List Terminal) → 15 ≤ length xs → is_at Comma us ≡ true → tuple_rest r make xs us ≡ None
  unfolding tuple_rest
  tuple_many xs us many q = by_next (r (tail us)) refl
    where
      over : (y : A) (rest : Option (List A × List Terminal)) → tuple_end make (behind xs (rest >>= λ z. Some (y ∷ z.0, z.1))) ≡ None
      over y None = refl
      over y (Some z) = closed (expect Close z.1)
        where
          closed : (o : Option (List Terminal)) → ◌>>=◌ {A = List Terminal} {B = A × List Terminal} o (λ us. ◌>>=◌ {A = A} {B = A × List Terminal} (tuple_of make (xs ++ (y ∷ z.0))) (λ b. Some (b, us))) ≡ None
          closed None = refl
          closed (Some vs) = rw (le_not (length (xs ++ (y ∷ z.0))) 15 (omega (arith, length-append xs (y ∷ z.0)))) refl

      by_next : (o : Option (A × List Terminal)) → r (tail us) ≡ o → tuple_end make (behind xs (loop (next_of r) us)) ≡ None
      by_next None k = ap (tuple_end make) (row_fails xs us q k)
      by_next (Some y) k = ap (λ z. tuple_end make (behind xs z)) (loop_takes s us y.1 y.0 (comma_takes r s us y.1 y.0 q k)) ∙ over y.0 (loop (next_of r) y.1)

  pub list_goes_on : (xs : List A) (x : A) (ts us : List Terminal) → is_at Comma ts ≡ true → r (tail ts) ≡ Some (x, us) → list_rest r make (xs ++ x ∷ []) us ≡ list_rest r make xs ts
  unfolding list_rest
  list_goes_on xs x ts us e q = ap (list_end make) (row_goes_on r s xs x ts us e q)

  pub list_ends : (xs : List A) (us vs : List Terminal) → is_at Comma us ≡ false → expect CloseSquare us ≡ Some vs → list_rest r make xs us ≡ Some (make xs, vs)
  unfolding list_rest
  list_ends xs us vs q k = ap (list_end make) (row_ends xs us q) ∙ rw k refl

  pub list_open : (xs : List A) (us : List Terminal) → is_at Comma us ≡ false → expect CloseSquare us ≡ None → list_rest r make xs us ≡ None
  unfolding list_rest
  list_open xs us q k = ap (list_end make) (row_ends xs us q) ∙ rw k refl

  pub list_fails : (xs : List A) (us : List Terminal) → is_at Comma us ≡ true → r (tail us) ≡ None → list_rest r make xs us ≡ None
  unfolding list_rest
  list_fails xs us q k = ap (list_end make) (row_fails xs us q k)
