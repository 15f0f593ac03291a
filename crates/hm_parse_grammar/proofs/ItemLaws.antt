-- Items between braces, with semicolons between, any of which may be empty, whatever they are.
use Rattle.std.proofs.Common.{◌≡◌, ℕ, ◌<◌, List, [], ◌∷◌, length, Bool, true, false, Option, Some, None, refl, sym, ap, ◌∙◌, subst, cond, arith}
use Rattle.hm_parse_grammar.specs.declared.symbol.Symbol.{Symbol}
use Rattle.hm_parse_grammar.specs.declared.symbol.Symbol.TheVariants.{Semicolon, RightBrace}
use Rattle.hm_parse_grammar.specs.Symbols.{same}
use Rattle.hm_parse_grammar.specs.Tokens.{Terminal}
use Rattle.hm_parse_grammar.specs.Grammar.Marks.{Spelling}
use Rattle.hm_parse_grammar.specs.Reading.Basics.{◌>>=◌, Reader, is_at, tail, item_end, past_semicolons, loop_with, loop}
use Rattle.hm_parse_grammar.specs.Reading.Expressions.{item_from, next_item_of}
use Rattle.hm_parse_grammar.proofs.Holds.{same_true}
use Rattle.hm_parse_grammar.proofs.Rows.{Step, Steps, loop_stops, loop_takes, loop_is}
use Rattle.hm_parse_grammar.proofs.Lists.{end_here, end_before}
use Rattle.hm_parse_grammar.proofs.Both.{Both, both_none, both_some, both_if, both_then, both_more}
use Rattle.hm_parse_grammar.proofs.Semicolons.{past_go, past_stay, past_short, past_twice}

-- what a spelling I of items has to obey
pub record ItemRules {A : Type 0} (X : Spelling A) (I : List A → List Terminal → List Terminal → Type 0) : Type 0 where
  pub none : (ts : List Terminal) → I [] ts ts
  pub last : (x : A) (ts rest : List Terminal) → X x ts rest → I (x ∷ []) ts rest
  pub empty : (k : Terminal) (xs : List A) (us rest : List Terminal) → k.symbol ≡ Semicolon → I xs us rest → I xs (k ∷ us) rest
  pub more : (k : Terminal) (x : A) (xs : List A) (ts us rest : List Terminal) → X x ts (k ∷ us) → k.symbol ≡ Semicolon → I xs us rest → I (x ∷ xs) ts rest
  pub short : (x : A) (ts rest : List Terminal) → X x ts rest → length rest < length ts

-- items, through the brace that ends them
pub record ItemsTo {A : Type 0} (I : List A → List Terminal → List Terminal → Type 0) (xs : List A) (ts rest : List Terminal) : Type 0 where
  pub mark : Terminal
  pub items : I xs ts (mark ∷ rest)
  pub close : mark.symbol ≡ RightBrace
  pub at_brace : is_at RightBrace ts ≡ true → (xs ≡ []) × (ts ≡ mark ∷ rest)

-- past a separator, or before the end
module _ {B : Type 0} {Q : B → Type 0} where
  both_end : (s t : Symbol) (ts : List Terminal) (f g : List Terminal → Option B) → is_at s [] ≡ false →
      ((m : Terminal) (us : List Terminal) → ts ≡ m ∷ us → m.symbol ≡ s → Both Q (f us) (g us)) →
      (is_at t ts ≡ true → Both Q (f ts) (g ts)) → Both Q (item_end s t ts >>= f) (item_end s t ts >>= g)
  unfolding item_end
  both_end s t ts f g z k h = chosen (is_at s ts) refl
    where
      later : (d : Bool) → is_at t ts ≡ d → Both Q (cond d (Some ts) None >>= f) (cond d (Some ts) None >>= g)
      later true e = h e
      later false e = both_none

      first : (us : List Terminal) → is_at s us ≡ true → ts ≡ us → Both Q (f (tail us)) (g (tail us))
      first [] e q = let clash : true ≡ false = sym e ∙ z in cc
      first (m ∷ us) e q = k m us q (same_true _ _ e)

      chosen : (c : Bool) → is_at s ts ≡ c →
          Both Q (cond c (Some (tail ts)) (cond (is_at t ts) (Some ts) None) >>= f) (cond c (Some (tail ts)) (cond (is_at t ts) (Some ts) None) >>= g)
      chosen true e = first ts e refl
      chosen false e = later (is_at t ts) refl

semicolon_no_brace : (k : Terminal) (ts : List Terminal) → k.symbol ≡ Semicolon → is_at RightBrace (k ∷ ts) ≡ false
semicolon_no_brace k ts q = ap (λ z. same z RightBrace) q

module _ {A : Type 0} {X : Spelling A} {I : List A → List Terminal → List Terminal → Type 0} (c : ItemRules X I) where
  -- semicolons before items
  pub items_past : (xs : List A) (ts rest : List Terminal) → I xs (past_semicolons ts) rest → I xs ts rest
  unfolding past_semicolons
  items_past xs [] rest d = d
  items_past xs (k ∷ ts) rest d = chosen (same k.symbol Semicolon) refl d (λ t. items_past xs ts rest t)
    where
      chosen : (b : Bool) → same k.symbol Semicolon ≡ b → I xs (cond b (past_semicolons ts) (k ∷ ts)) rest →
          (I xs (past_semicolons ts) rest → I xs ts rest) → I xs (k ∷ ts) rest
      chosen true e t h = c.empty k xs ts rest (same_true _ _ e) (h t)
      chosen false e t h = t

  brace_past : (ts : List Terminal) → is_at RightBrace ts ≡ true → past_semicolons ts ≡ ts
  brace_past ts h = by_first ts h
    where
      by_first : (us : List Terminal) → is_at RightBrace us ≡ true → past_semicolons us ≡ us
      by_first [] e = past_stay [] refl
      by_first (k ∷ us) e = past_stay (k ∷ us) (ap (λ z. same z Semicolon) (same_true k.symbol RightBrace e))

  past_to : (xs : List A) (ts rest : List Terminal) → ItemsTo I xs (past_semicolons ts) rest → ItemsTo I xs ts rest
  past_to xs ts rest d = record {
    mark = d.mark;
    items = items_past xs ts (d.mark ∷ rest) d.items;
    close = d.close;
    at_brace = λ h. let here = d.at_brace (ap (is_at RightBrace) (brace_past ts h) ∙ h) in (here.0, sym (brace_past ts h) ∙ here.1);
  }

  module _ (n : ℕ) (f g : Reader A) (h : (ts : List Terminal) → length ts < n → Both (λ (x : A × List Terminal). X x.0 ts x.1) (f ts) (g ts)) where
    from_found : (ts : List Terminal) → length ts < n → Both (Step (ItemsTo I) ts) (item_from f ts) (item_from g ts)
    from_found ts l =
        both_if _ _ _ _ _
        (λ q. at_end ts q)
        (λ other. both_then _ _ _ _ (h ts l) (λ (x : A × List Terminal) d.
        both_end Semicolon RightBrace x.1 (λ us. Some (Some x.0, us)) (λ us. Some (Some x.0, us)) refl
        (λ m us eq q. both_some (Some x.0, us) (
          omega (arith, c.short x.0 ts x.1 d, ap length eq),
          λ xs vs t. record {
            mark = t.mark;
            items = c.more m x.0 xs ts us (t.mark ∷ vs) (subst (λ z. X x.0 ts z) eq d) q t.items;
            close = t.close;
            at_brace = λ e. clash' other e;
          },
        ))
        (λ q. both_some (Some x.0, x.1) (
          c.short x.0 ts x.1 d,
          λ xs vs t. record {
            mark = t.mark;
            items = alone x.0 x.1 d xs (t.at_brace q).0 vs t.mark (t.at_brace q).1;
            close = t.close;
            at_brace = λ e. clash' other e;
          },
        ))))
      where
        clash' : {B : Type 0} → is_at RightBrace ts ≡ false → is_at RightBrace ts ≡ true → B
        clash' other e = let z : true ≡ false = sym e ∙ other in cc

        at_end : (us : List Terminal) → is_at RightBrace us ≡ true → Both (Step (ItemsTo I) us) (Some (None, tail us)) (Some (None, tail us))
        at_end [] e = cc
        at_end (k ∷ us) e = both_some (None, us) (record { mark = k; items = c.none (k ∷ us); close = same_true _ _ e; at_brace = λ _. (refl, refl) })

        alone : (x : A) (us : List Terminal) → X x ts us → (xs : List A) → xs ≡ [] → (vs : List Terminal) (m : Terminal) → us ≡ m ∷ vs → I (x ∷ xs) ts (m ∷ vs)
        alone x us d xs e vs m eq = subst (λ z. I (x ∷ z) ts (m ∷ vs)) (sym e) (c.last x ts (m ∷ vs) (subst (λ z. X x ts z) eq d))

    pub item_found : (ts : List Terminal) → length ts < n → Both (Step (ItemsTo I) ts) (next_item_of f ts) (next_item_of g ts)
    unfolding next_item_of
    item_found ts l = both_more (from_found (past_semicolons ts) (omega (arith, past_short ts))) by_case
      where
        by_case : (x : Option A × List Terminal) → Step (ItemsTo I) (past_semicolons ts) x → Step (ItemsTo I) ts x
        by_case (None, us) d = past_to [] ts us d
        by_case (Some a, us) d = (omega (arith, d.0, past_short ts), λ xs vs t. past_to (a ∷ xs) ts vs (d.1 xs vs t))

-- ---- what is spelled is read

module _ {A : Type 0} {P : List A → List Terminal → List Terminal → Type 0} (one : Reader A) (s : Steps P (next_item_of one)) where
  next_past : (ts : List Terminal) → next_item_of one (past_semicolons ts) ≡ next_item_of one ts
  unfolding next_item_of
  next_past ts = ap (item_from one) (past_twice ts)

  pub loop_past : (ts : List Terminal) → loop (next_item_of one) (past_semicolons ts) ≡ loop (next_item_of one) ts
  loop_past ts = loop_is s (past_semicolons ts) ∙ (ap (loop_with (loop (next_item_of one))) (next_past ts) ∙ sym (loop_is s ts))

  pub loop_go : (k : Terminal) (ts : List Terminal) → k.symbol ≡ Semicolon → loop (next_item_of one) (k ∷ ts) ≡ loop (next_item_of one) ts
  loop_go k ts q = sym (loop_past (k ∷ ts)) ∙ (ap (loop (next_item_of one)) (past_go k ts q) ∙ loop_past ts)

  pub loop_end : (m : Terminal) (rest : List Terminal) → m.symbol ≡ RightBrace → loop (next_item_of one) (m ∷ rest) ≡ Some ([], rest)
  unfolding next_item_of
  loop_end m rest q = loop_stops s (m ∷ rest) rest (rw (past_stay (m ∷ rest) (ap (λ z. same z Semicolon) q)) (rw q refl))

  next_is : (ts us vs : List Terminal) (x : A) → one ts ≡ Some (x, us) → is_at Semicolon ts ≡ false → is_at RightBrace ts ≡ false → item_end Semicolon RightBrace us ≡ Some vs → next_item_of one ts ≡ Some (Some x, vs)
  unfolding next_item_of
  next_is ts us vs x e a b q = rw (past_stay ts a) (rw (b, e, q) refl)

  -- the last item, before the brace
  pub loop_last : (ts : List Terminal) (x : A) (m : Terminal) (rest : List Terminal) → one ts ≡ Some (x, m ∷ rest) → is_at Semicolon ts ≡ false → is_at RightBrace ts ≡ false → m.symbol ≡ RightBrace →
      loop (next_item_of one) ts ≡ Some (x ∷ [], rest)
  loop_last ts x m rest e a b q =
      loop_takes s ts (m ∷ rest) x (next_is ts (m ∷ rest) (m ∷ rest) x e a b (end_before Semicolon RightBrace m rest q refl refl)) ∙ rw (loop_end m rest q) refl

  -- an item, a semicolon and more of them
  pub loop_more : (ts : List Terminal) (x : A) (k : Terminal) (us : List Terminal) (xs : List A) (rest : List Terminal) → one ts ≡ Some (x, k ∷ us) → is_at Semicolon ts ≡ false → is_at RightBrace ts ≡ false →
      k.symbol ≡ Semicolon → loop (next_item_of one) us ≡ Some (xs, rest) → loop (next_item_of one) ts ≡ Some (x ∷ xs, rest)
  loop_more ts x k us xs rest e a b q l =
      loop_takes s ts us x (next_is ts (k ∷ us) us x e a b (end_here Semicolon RightBrace k us q refl)) ∙ rw l refl
