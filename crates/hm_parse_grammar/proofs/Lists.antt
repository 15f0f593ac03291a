-- A reader that finds what is spelled, and only that.
use Rattle.std.proofs.Common.{◌≡◌, ◌<◌, List, [], ◌∷◌, length, Bool, true, false, Some, refl, sym, ap, ◌∙◌, subst, arith}
use Rattle.hm_parse_grammar.specs.declared.symbol.Symbol.{Symbol}
use Rattle.hm_parse_grammar.specs.declared.symbol.Symbol.TheVariants.{Close, Comma, Semicolon, RightBrace}
use Rattle.hm_parse_grammar.specs.Symbols.{same}
use Rattle.hm_parse_grammar.specs.Tokens.{Terminal}
use Rattle.hm_parse_grammar.specs.Grammar.Marks.{Spelling, Commas, commas_none, commas_more, Row, row_none, row_some, MayComma, no_comma, one_comma}
use Rattle.hm_parse_grammar.specs.Reading.Basics.{Reader, peek, is_at, item_end, loop}
use Rattle.hm_parse_grammar.specs.Reading.Headers.{next_listed, listed_in}
use Rattle.hm_parse_grammar.proofs.Holds.{Holds, holds_some, holds_if, holds_then, holds_expect, holds_end, same_true}
use Rattle.hm_parse_grammar.proofs.Rows.{Step, Steps, loop_stops, loop_takes, loop_found}

-- What may follow an item, and begins none.
abbrev pub ends_item : Symbol → Bool
ends_item Comma = true
ends_item Close = true
ends_item Semicolon = true
ends_item RightBrace = true
ends_item _ = false

pub record Reads {A : Type 0} (X : Spelling A) (one : Reader A) : Type 0 where
  pub found : (ts : List Terminal) → Holds (λ (x : A × List Terminal). X x.0 ts x.1) (one ts)
  pub only : (x : A) (ts rest : List Terminal) → X x ts rest → ends_item (peek rest) ≡ true → one ts ≡ Some (x, rest)
  pub short : (x : A) (ts rest : List Terminal) → X x ts rest → length rest < length ts
  pub begins : (x : A) (ts rest : List Terminal) → X x ts rest → ends_item (peek ts) ≡ false

pub not_end : (s t : Symbol) → ends_item s ≡ false → ends_item t ≡ true → same s t ≡ false
not_end s t h k = chosen (same s t) refl
  where
    chosen : (c : Bool) → same s t ≡ c → c ≡ false
    chosen true e = let clash : true ≡ false = sym k ∙ (ap ends_item (sym (same_true s t e)) ∙ h) in cc
    chosen false e = refl

-- an item and what ends it
module _ (s t : Symbol) where
  pub end_here : (m : Terminal) (us : List Terminal) → m.symbol ≡ s → same s s ≡ true → item_end s t (m ∷ us) ≡ Some us
  unfolding item_end
  end_here m us e q = rw (e, q) refl

  pub end_before : (m : Terminal) (us : List Terminal) → m.symbol ≡ t → same t s ≡ false → same t t ≡ true → item_end s t (m ∷ us) ≡ Some (m ∷ us)
  unfolding item_end
  end_before m us e p q = rw (e, p, q) refl

module _ {A : Type 0} (X : Spelling A) (one : Reader A) (r : Reads X one) where
  -- what stands in a list from an item on, through its end
  pub data Ends : List A → List Terminal → List Terminal → Type 0 where
    ends_close : {m : Terminal} {rest : List Terminal} → m.symbol ≡ Close → Ends [] (m ∷ rest) rest
    ends_last : {x : A} {m : Terminal} {ts rest : List Terminal} → X x ts (m ∷ rest) → m.symbol ≡ Close → Ends (x ∷ []) ts rest
    ends_more : {x : A} {xs : List A} {k : Terminal} {ts us rest : List Terminal} → X x ts (k ∷ us) → k.symbol ≡ Comma → Ends xs us rest → Ends (x ∷ xs) ts rest

  -- at the end nothing follows
  at_close : {xs : List A} {ts rest : List Terminal} → Ends xs ts rest → (x : A) (ss : List Terminal) → X x ss ts → is_at Close ts ≡ true → Ends (x ∷ xs) ss rest
  at_close (ends_close c) x ss d e = ends_last d c
  at_close (ends_last {x = y} {ts = ts} d' c) x ss d e = let clash : true ≡ false = sym e ∙ not_end (peek ts) Close (r.begins y _ _ d') refl in cc
  at_close (ends_more {x = y} {ts = ts} d' k t) x ss d e = let clash : true ≡ false = sym e ∙ not_end (peek ts) Close (r.begins y _ _ d') refl in cc

  listed_step : (ts : List Terminal) → Holds (Step Ends ts) (next_listed one ts)
  listed_step [] = holds_then _ _ (r.found []) (λ x d. absurd (omega (arith, r.short _ _ _ d)))
  listed_step (k ∷ ts) =
      holds_if _ _ _
      (λ q. holds_some _ (ends_close (same_true _ _ q)))
      (λ _. holds_then _ _ (r.found (k ∷ ts)) (λ (x : A × List Terminal) d.
      holds_end Comma Close x.1 (λ us. Some (Some x.0, us)) refl
      (λ m us eq c. holds_some _ (omega (arith, r.short _ _ _ d, ap length eq), λ xs vs t. ends_more (subst (λ z. X x.0 (k ∷ ts) z) eq d) c t))
      (λ c. holds_some _ (r.short _ _ _ d, λ xs vs t. at_close t x.0 (k ∷ ts) d c))))

  pub listed_steps : Steps Ends (next_listed one)
  listed_steps = record { step = listed_step }

  -- the end of a list, as the grammar says it
  pub record Closes (Front : List Terminal → Type 0) (rest : List Terminal) : Type 0 where
    pub upto : List Terminal
    pub mark : Terminal
    pub front : Front upto
    pub comma : MayComma upto (mark ∷ rest)
    pub close : mark.symbol ≡ Close

  commas_of : {xs : List A} {us rest : List Terminal} → Ends xs us rest → (k : Terminal) → k.symbol ≡ Comma → Closes (λ vs. Commas X xs (k ∷ us) vs) rest
  commas_of (ends_close c) k q = record { upto = _; mark = _; front = commas_none; comma = one_comma q; close = c }
  commas_of (ends_last d c) k q = record { upto = _; mark = _; front = commas_more q d commas_none; comma = no_comma; close = c }
  commas_of (ends_more {k = l} d q' t) k q =
      let later = commas_of t l q' in
      record { upto = _; mark = _; front = commas_more q d later.front; comma = later.comma; close = later.close }

  pub row_of : {xs : List A} {us rest : List Terminal} → Ends xs us rest → Closes (λ vs. Row X xs us vs) rest
  row_of (ends_close c) = record { upto = _; mark = _; front = row_none; comma = no_comma; close = c }
  row_of (ends_last d c) = record { upto = _; mark = _; front = row_some d commas_none; comma = no_comma; close = c }
  row_of (ends_more {k = l} d q t) =
      let later = commas_of t l q in
      record { upto = _; mark = _; front = row_some d later.front; comma = later.comma; close = later.close }

  -- what follows `(`
  pub listed_found : (ts : List Terminal) → Holds (λ (x : List A × List Terminal). Closes (λ vs. Row X x.0 ts vs) x.1) (listed_in (next_listed one) ts)
  listed_found [] = record { holds = λ x e. row_of ((loop_found listed_steps []).holds x e) }
  listed_found (k ∷ ts) =
      holds_if _ _ _
      (λ q. holds_expect Close ts _ (λ m us eq c.
      holds_some _ (record { upto = _; mark = _; front = row_none; comma = one_comma' k ts m us (same_true _ _ q) eq; close = c })))
      (λ _. record { holds = λ x e. row_of ((loop_found listed_steps (k ∷ ts)).holds x e) })
    where
      one_comma' : (k : Terminal) (ts : List Terminal) (m : Terminal) (us : List Terminal) → k.symbol ≡ Comma → ts ≡ m ∷ us → MayComma (k ∷ ts) (m ∷ us)
      one_comma' k ts m us q eq = subst (λ z. MayComma (k ∷ z) (m ∷ us)) (sym eq) (one_comma q)

  -- ---- only

  closed : (m : Terminal) (rest : List Terminal) → m.symbol ≡ Close → loop (next_listed one) (m ∷ rest) ≡ Some ([], rest)
  closed m rest c = loop_stops listed_steps (m ∷ rest) rest (rw c refl)

  taken : (x : A) (ts us vs : List Terminal) → X x ts us → ends_item (peek us) ≡ true → item_end Comma Close us ≡ Some vs → next_listed one ts ≡ Some (Some x, vs)
  taken x ts us vs d e q = rw (not_end (peek ts) Close (r.begins x ts us d) refl, r.only x ts us d e, q) refl

  pub row_only : {xs : List A} {us vs : List Terminal} → Commas X xs us vs → (x : A) (ts rest : List Terminal) (m : Terminal) → X x ts us → MayComma vs (m ∷ rest) → m.symbol ≡ Close →
      loop (next_listed one) ts ≡ Some (x ∷ xs, rest)
  row_only commas_none x ts rest m d no_comma c =
      loop_takes listed_steps ts (m ∷ rest) x (taken x ts (m ∷ rest) (m ∷ rest) d (ap ends_item c) (end_before Comma Close m rest c refl refl))
      ∙ rw (closed m rest c) refl
  row_only commas_none x ts rest m d (one_comma {k = k} q) c =
      loop_takes listed_steps ts (m ∷ rest) x (taken x ts (k ∷ m ∷ rest) (m ∷ rest) d (ap ends_item q) (end_here Comma Close k (m ∷ rest) q refl))
      ∙ rw (closed m rest c) refl
  row_only (commas_more {x = y} {k = k} {us = us} q d' ds) x ts rest m d mc c =
      loop_takes listed_steps ts us x (taken x ts (k ∷ us) us d (ap ends_item q) (end_here Comma Close k us q refl))
      ∙ rw (row_only ds y us rest m d' mc c) refl

  pub listed_only : {xs : List A} {ts vs rest : List Terminal} {m : Terminal} → Row X xs ts vs → MayComma vs (m ∷ rest) → m.symbol ≡ Close →
      listed_in (next_listed one) ts ≡ Some (xs, rest)
  listed_only {rest = rest} {m = m} row_none no_comma c = rw (ap (λ z. same z Comma) c) (closed m rest c)
  listed_only {rest = rest} {m = m} row_none (one_comma q) c = rw q (rw c refl)
  listed_only {ts = ts} {rest = rest} {m = m} (row_some {x = x} d ds) mc c =
      rw (not_end (peek ts) Comma (r.begins x _ _ d) refl) (row_only ds x ts rest m d mc c)
