-- Rows with commas between, tuples and lists, whatever they are of.
use Rattle.std.proofs.Common.{◌≡◌, ℕ, ◌+◌, ◌<◌, ◌≤◌, List, [], ◌∷◌, ◌++◌, length, Bool, true, false, nat_le, Option, Some, None, refl, sym, ap, ◌∙◌, subst, cond, arith, length-append}
use Rattle.std.proofs.lemmas.Bool.Decides.{nat_tests}
use Rattle.hm_parse_grammar.specs.declared.symbol.Symbol.TheVariants.{Close, CloseSquare, Comma}
use Rattle.hm_parse_grammar.specs.Symbols.{same}
use Rattle.hm_parse_grammar.specs.Tokens.{Terminal}
use Rattle.hm_parse_grammar.specs.Grammar.Marks.{Spelling}
use Rattle.hm_parse_grammar.specs.Reading.Basics.{◌>>=◌, Reader, is_at, tail, expect, loop, behind, next_of, tuple_of, tuple_behind, closing, list_in}
use Rattle.hm_parse_grammar.proofs.Holds.{same_true}
use Rattle.hm_parse_grammar.proofs.Rows.{Step, Steps, loop_stops, loop_takes, loop_is, goes_on, ends}
use Rattle.hm_parse_grammar.proofs.Both.{Both, both_none, both_some, both_if, both_then, both_expect, both_loop}

pub le_of : (a b : ℕ) → nat_le a b ≡ true → a ≤ b
le_of a b e = grind (arith, nat_tests)

pub le_is : (a b : ℕ) → a ≤ b → nat_le a b ≡ true
le_is a b h = grind (arith, nat_tests)

pub le_not : (a b : ℕ) → b < a → nat_le a b ≡ false
le_not a b h = grind (arith, nat_tests)

-- what a spelling C of rows with commas before each thing has to obey
pub record CommaRules {A : Type 0} (X : Spelling A) (C : List A → List Terminal → List Terminal → Type 0) : Type 0 where
  pub none : (ts : List Terminal) → C [] ts ts
  pub more : (k : Terminal) (x : A) (xs : List A) (us vs rest : List Terminal) → k.symbol ≡ Comma → X x us vs → C xs vs rest → C (x ∷ xs) (k ∷ us) rest
  pub short : (x : A) (ts rest : List Terminal) → X x ts rest → length rest < length ts
  pub empty : (ts us : List Terminal) → C [] ts us → ts ≡ us

-- the first thing, and those behind it
pub record Behind {A : Type 0} (C : List A → List Terminal → List Terminal → Type 0) (x : A) (us : List Terminal) (xs : List A) (rest : List Terminal) : Type 0 where
  pub others : List A
  pub is : xs ≡ x ∷ others
  pub row : C others us rest

module _ {A : Type 0} {X : Spelling A} {C : List A → List Terminal → List Terminal → Type 0} (c : CommaRules X C) (n : ℕ) (f g : Reader A)
    (h : (ts : List Terminal) → length ts < n → Both (λ (x : A × List Terminal). X x.0 ts x.1) (f ts) (g ts)) where
  pub next_found : (ts : List Terminal) → length ts < n + 1 → Both (Step C ts) (next_of f ts) (next_of g ts)
  unfolding next_of
  next_found [] l = both_some (None, []) (c.none [])
  next_found (k ∷ ts) l =
      both_if _ _ _ _ _
      (λ q. both_then _ _ _ _ (h ts (omega arith)) (λ (x : A × List Terminal) d.
      both_some (Some x.0, x.1) (omega (arith, c.short x.0 ts x.1 d), λ xs rest ds. c.more k x.0 xs ts x.1 rest (same_true _ _ q) d ds)))
      (λ _. both_some (None, k ∷ ts) (c.none (k ∷ ts)))

  pub behind_found : (x : A) (us : List Terminal) → length us < n + 1 →
      Both (λ (y : List A × List Terminal). Behind C x us y.0 y.1) (behind (x ∷ []) (loop (next_of f) us)) (behind (x ∷ []) (loop (next_of g) us))
  behind_found x us l = through (loop (next_of f) us) (loop (next_of g) us) (both_loop C (n + 1) (next_of f) (next_of g) next_found us l)
    where
      through : (a b : Option (List A × List Terminal)) → Both (λ (y : List A × List Terminal). C y.0 us y.1) a b →
          Both (λ (y : List A × List Terminal). Behind C x us y.0 y.1) (behind (x ∷ []) a) (behind (x ∷ []) b)
      through None b k = rw (← k.equal) both_none
      through (Some y) b k = rw (← k.equal) (both_some (x ∷ y.0, y.1) (record { others = y.0; is = refl; row = k.holds y refl }))

  tuple_found : {B : Type 0} (make : List A → B) (Q : B × List Terminal → Type 0) (x : A) (us : List Terminal) → length us < n + 1 → is_at Comma us ≡ true →
      ((y : A) (ys : List A) (m : Terminal) (ws : List Terminal) → C (y ∷ ys) us (m ∷ ws) → m.symbol ≡ Close → length (x ∷ y ∷ ys) ≤ 15 → Q (make (x ∷ y ∷ ys), ws)) →
      Both Q (tuple_behind f make x us) (tuple_behind g make x us)
  unfolding tuple_behind
  tuple_found make Q x us l e k =
      both_then _ _ _ _ (behind_found x us l) (λ (xs : List A × List Terminal) b.
      both_expect Close xs.1 (λ vs. tuple_of make xs.0 >>= λ y. Some (y, vs)) (λ vs. tuple_of make xs.0 >>= λ y. Some (y, vs)) (λ m ws eq close.
      limited xs.0 b.others b.is m ws (subst (λ z. C b.others us z) eq b.row) close))
    where
      counted : (ys : List A) (m : Terminal) (ws : List Terminal) → C ys us (m ∷ ws) → m.symbol ≡ Close →
          Both Q (tuple_of make (x ∷ ys) >>= λ y. Some (y, ws)) (tuple_of make (x ∷ ys) >>= λ y. Some (y, ws))
      counted [] m ws d close =
          let same_list : us ≡ m ∷ ws = c.empty us (m ∷ ws) d in
          let clash : true ≡ false = sym e ∙ (ap (is_at Comma) same_list ∙ ap (λ z. same z Comma) close) in cc
      counted (y ∷ ys) m ws d close = chosen (nat_le (length (x ∷ y ∷ ys)) 15) refl
        where
          chosen : (b : Bool) → nat_le (length (x ∷ y ∷ ys)) 15 ≡ b →
              Both Q (cond b (Some (make (x ∷ y ∷ ys))) None >>= λ y. Some (y, ws)) (cond b (Some (make (x ∷ y ∷ ys))) None >>= λ y. Some (y, ws))
          chosen true few = both_some _ (k y ys m ws d close (le_of _ _ few))
          chosen false few = both_none

      limited : (xs ys : List A) → xs ≡ x ∷ ys → (m : Terminal) (ws : List Terminal) → C ys us (m ∷ ws) → m.symbol ≡ Close →
          Both Q (tuple_of make xs >>= λ y. Some (y, ws)) (tuple_of make xs >>= λ y. Some (y, ws))
      limited xs ys is m ws d close = subst (λ z. Both Q (tuple_of make z >>= λ y. Some (y, ws)) (tuple_of make z >>= λ y. Some (y, ws))) (sym is) (counted ys m ws d close)

  pub closing_found : (make : List A → A) (Q : A × List Terminal → Type 0) (x : A) (us : List Terminal) → length us < n + 1 →
      ((m : Terminal) (ws : List Terminal) → us ≡ m ∷ ws → m.symbol ≡ Close → Q (x, ws)) →
      ((y : A) (ys : List A) (m : Terminal) (ws : List Terminal) → C (y ∷ ys) us (m ∷ ws) → m.symbol ≡ Close → length (x ∷ y ∷ ys) ≤ 15 → Q (make (x ∷ y ∷ ys), ws)) →
      Both Q (closing f make x us) (closing g make x us)
  unfolding closing
  closing_found make Q x us l one many =
      both_if _ _ _ _ _
      (λ q. tuple_found make Q x us l q many)
      (λ _. both_expect Close us _ _ (λ m ws eq close. both_some _ (one m ws eq close)))

  pub list_found : (make : List A → A) (Q : A × List Terminal → Type 0) (ts : List Terminal) → length ts < n →
      ((x : A) (xs : List A) (us : List Terminal) (m : Terminal) (ws : List Terminal) → X x ts us → C xs us (m ∷ ws) → m.symbol ≡ CloseSquare → Q (make (x ∷ xs), ws)) →
      Both Q (list_in f make ts) (list_in g make ts)
  unfolding list_in
  list_found make Q ts l k =
      both_then _ _ _ _ (h ts l) (λ (x : A × List Terminal) d.
      both_then _ _ _ _ (behind_found x.0 x.1 (omega (arith, c.short x.0 ts x.1 d))) (λ (xs : List A × List Terminal) b.
      both_expect CloseSquare xs.1 (λ us. Some (make xs.0, us)) (λ us. Some (make xs.0, us)) (λ m ws eq close.
      both_some (make xs.0, ws) (subst (λ z. Q (make z, ws)) (sym b.is) (k x.0 b.others x.1 m ws d (subst (λ z. C b.others x.1 z) eq b.row) close)))))

-- ---- what is spelled is read

module _ {A : Type 0} (r : Reader A) where
  pub closes_one : (make : List A → A) (x : A) (m : Terminal) (ws : List Terminal) → m.symbol ≡ Close → closing r make x (m ∷ ws) ≡ Some (x, ws)
  unfolding closing
  closes_one make x m ws q = rw q refl

  pub closes_row : (make : List A → A) (x : A) (xs : List A) (us : List Terminal) (m : Terminal) (ws : List Terminal) → is_at Comma us ≡ true → loop (next_of r) us ≡ Some (xs, m ∷ ws) →
      m.symbol ≡ Close → length (x ∷ xs) ≤ 15 → closing r make x us ≡ Some (make (x ∷ xs), ws)
  unfolding closing tuple_behind
  closes_row make x xs us m ws e l q few = rw e (rw l (rw q (rw (le_is (length (x ∷ xs)) 15 few) refl)))

  pub lists_row : (make : List A → A) (x : A) (xs : List A) (ts us : List Terminal) (m : Terminal) (ws : List Terminal) → r ts ≡ Some (x, us) → loop (next_of r) us ≡ Some (xs, m ∷ ws) →
      m.symbol ≡ CloseSquare → list_in r make ts ≡ Some (make (x ∷ xs), ws)
  unfolding list_in
  lists_row make x xs ts us m ws e l q = rw e (rw l (rw q refl))

-- ---- loops

abbrev ended : {A B : Type 0} → (List A → B) → List A → List Terminal → Option (B × List Terminal)
ended make xs vs = tuple_of make xs >>= λ b. Some (b, vs)

abbrev ending : {A B : Type 0} → (List A → B) → List A × List Terminal → Option (B × List Terminal)
ending make zs = expect Close zs.1 >>= ended make zs.0

module _ {A : Type 0} {P : List A → List Terminal → List Terminal → Type 0} (r : Reader A) (s : Steps P (next_of r)) where
  -- one more thing behind a comma
  pub comma_takes : (ts us : List Terminal) (x : A) → is_at Comma ts ≡ true → r (tail ts) ≡ Some (x, us) → next_of r ts ≡ Some (Some x, us)
  unfolding next_of
  comma_takes ts us x e q = rw (e, q) refl

  comma_fails : (ts : List Terminal) → is_at Comma ts ≡ true → r (tail ts) ≡ None → next_of r ts ≡ None
  unfolding next_of
  comma_fails ts e q = rw (e, q) refl

  comma_stops : (ts : List Terminal) → is_at Comma ts ≡ false → next_of r ts ≡ Some (None, ts)
  unfolding next_of
  comma_stops ts e = rw e refl

  pub row_takes : (xs : List A) (ts us : List Terminal) (x : A) → loop (next_of r) us ≡ Some (xs, ts) → (vs : List Terminal) → is_at Comma vs ≡ true → r (tail vs) ≡ Some (x, us) →
      loop (next_of r) vs ≡ Some (x ∷ xs, ts)
  row_takes xs ts us x l vs e q = loop_takes s vs us x (comma_takes vs us x e q) ∙ rw l refl

  pub row_stops : (ts : List Terminal) → is_at Comma ts ≡ false → loop (next_of r) ts ≡ Some ([], ts)
  row_stops ts e = loop_stops s ts ts (comma_stops ts e)

  pub row_goes_on : (xs : List A) (x : A) (ts us : List Terminal) → is_at Comma ts ≡ true → r (tail ts) ≡ Some (x, us) →
      behind (xs ++ x ∷ []) (loop (next_of r) us) ≡ behind xs (loop (next_of r) ts)
  row_goes_on xs x ts us e q = goes_on s xs x ts us (comma_takes ts us x e q)

  row_ends : (xs : List A) (ts : List Terminal) → is_at Comma ts ≡ false → behind xs (loop (next_of r) ts) ≡ Some (xs, ts)
  row_ends xs ts e = ends s xs ts ts (comma_stops ts e)

  row_fails : (xs : List A) (ts : List Terminal) → is_at Comma ts ≡ true → r (tail ts) ≡ None → behind xs (loop (next_of r) ts) ≡ None
  row_fails xs ts e q = ap (behind xs) (loop_is s ts) ∙ rw (comma_fails ts e q) refl

  -- a list, where us is what is left and xs were read
  pub list_ends : (make : List A → A) (x : A) (xs : List A) (rs ts us vs : List Terminal) → r rs ≡ Some (x, ts) → behind xs (loop (next_of r) us) ≡ behind (x ∷ []) (loop (next_of r) ts) →
      is_at Comma us ≡ false → expect CloseSquare us ≡ Some vs → list_in r make rs ≡ Some (make xs, vs)
  unfolding list_in
  list_ends make x xs rs ts us vs f e q k = rw f (rw (sym e ∙ row_ends xs us q) (rw k refl))

  pub list_open : (make : List A → A) (x : A) (xs : List A) (rs ts us : List Terminal) → r rs ≡ Some (x, ts) → behind xs (loop (next_of r) us) ≡ behind (x ∷ []) (loop (next_of r) ts) →
      is_at Comma us ≡ false → expect CloseSquare us ≡ None → list_in r make rs ≡ None
  unfolding list_in
  list_open make x xs rs ts us f e q k = rw f (rw (sym e ∙ row_ends xs us q) (rw k refl))

  pub list_fails : (make : List A → A) (x : A) (xs : List A) (rs ts us : List Terminal) → r rs ≡ Some (x, ts) → behind xs (loop (next_of r) us) ≡ behind (x ∷ []) (loop (next_of r) ts) →
      is_at Comma us ≡ true → r (tail us) ≡ None → list_in r make rs ≡ None
  unfolding list_in
  list_fails make x xs rs ts us f e q k = rw f (rw (sym e ∙ row_fails xs us q k) refl)

  -- a tuple, where us is what is left and xs were read
  pub tuple_ends : {B : Type 0} (make : List A → B) (x : A) (xs : List A) (ts us vs : List Terminal) → behind xs (loop (next_of r) us) ≡ behind (x ∷ []) (loop (next_of r) ts) →
      is_at Comma us ≡ false → expect Close us ≡ Some vs → length xs ≤ 15 → tuple_behind r make x ts ≡ Some (make xs, vs)
  unfolding tuple_behind
  tuple_ends make x xs ts us vs e q k few = rw (sym e ∙ row_ends xs us q) (rw k (rw (le_is (length xs) 15 few) refl))

  pub tuple_open : {B : Type 0} (make : List A → B) (x : A) (xs : List A) (ts us : List Terminal) → behind xs (loop (next_of r) us) ≡ behind (x ∷ []) (loop (next_of r) ts) →
      is_at Comma us ≡ false → expect Close us ≡ None → tuple_behind r make x ts ≡ None
  unfolding tuple_behind
  tuple_open make x xs ts us e q k = rw (sym e ∙ row_ends xs us q) (rw k refl)

  pub tuple_fails : {B : Type 0} (make : List A → B) (x : A) (xs : List A) (ts us : List Terminal) → behind xs (loop (next_of r) us) ≡ behind (x ∷ []) (loop (next_of r) ts) →
      is_at Comma us ≡ true → r (tail us) ≡ None → tuple_behind r make x ts ≡ None
  unfolding tuple_behind
  tuple_fails make x xs ts us e q k = rw (sym e ∙ row_fails xs us q k) refl

  -- with as many as are allowed no further comma may come
  pub tuple_many : {B : Type 0} (make : List A → B) (x : A) (xs : List A) (ts us : List Terminal) → behind xs (loop (next_of r) us) ≡ behind (x ∷ []) (loop (next_of r) ts) →
      15 ≤ length xs → is_at Comma us ≡ true → tuple_behind r make x ts ≡ None
  unfolding tuple_behind
  tuple_many {B = B} make x xs ts us e many q = by_next (r (tail us)) refl
    where
      over : (y : A) (rest : Option (List A × List Terminal)) →
          (behind xs (rest >>= λ z. Some (y ∷ z.0, z.1)) >>= ending make) ≡ None
      over y None = refl
      over y (Some z) = closed (expect Close z.1)
        where
          closed : (o : Option (List Terminal)) → (o >>= ended make (xs ++ (y ∷ z.0))) ≡ None
          closed None = refl
          closed (Some vs) = rw (le_not (length (xs ++ (y ∷ z.0))) 15 (omega (arith, length-append xs (y ∷ z.0)))) refl

      by_next : (o : Option (A × List Terminal)) → r (tail us) ≡ o →
          (behind (x ∷ []) (loop (next_of r) ts) >>= ending make) ≡ None
      by_next None k = rw (sym e ∙ row_fails xs us q k) refl
      by_next (Some y) k = rw (sym e ∙ ap (behind xs) (loop_takes s us y.1 y.0 (comma_takes us y.1 y.0 q k))) (over y.0 (loop (next_of r) y.1))
