-- Patterns that are pending, with one more and with one less.
use Rattle.std.proofs.Common.{◌≡◌, ℕ, ◌+◌, ◌<◌, ◌≤◌, List, [], ◌∷◌, ◌++◌, Option, Some, Bor, option_to_list, drop, get_or, length, sym, ap, ◌∙◌, arith, append_assoc}
use Rattle.std.proofs.lemmas.List.{append-nil, map-append}
use Rattle.hm_names.specs.Variables.{pattern_variables, patterns_variables}
use Rattle.hm_names.proofs.Rows.{unrolled}
use Rattle.hm_syntax.specs.Lists.{patterns}
use Rattle.hm_syntax.specs.Names.{Identifier}
use Rattle.hm_syntax.specs.Sizes.{pattern_size, patterns_size}
use Rattle.hm_syntax.specs.Trees.{Pattern, bound_pattern, lazy_pattern}
use Rattle.hm_uses_symbols.specs.Pending.{lent, pending_size, pending_variables}

variables_push : (ps : List Pattern) (p : Pattern) → pending_variables (ps ++ p ∷ []) ≡ pattern_variables p ++ pending_variables ps
variables_push [] p = sym (append-nil (pattern_variables p))
variables_push (q ∷ qs) p = ap (λ (vs : List Identifier). vs ++ pattern_variables q) (variables_push qs p) ∙ append_assoc (pattern_variables p) (pending_variables qs) (pattern_variables q)

size_push : (ps : List Pattern) (p : Pattern) → pending_size (ps ++ p ∷ []) ≡ (1 + pattern_size p) + pending_size ps
size_push [] p = omega arith
size_push (q ∷ qs) p = let before : pending_size (qs ++ p ∷ []) ≡ (1 + pattern_size p) + pending_size qs = size_push qs p in omega (arith, before)

-- with one more
more_variables : (old new : List (Bor Pattern)) (p : Bor Pattern) → new ≡ old ++ p ∷ [] → pending_variables (lent new) ≡ pattern_variables p.now ++ pending_variables (lent old)
more_variables old new p is = ap (λ (l : List (Bor Pattern)). pending_variables (lent l)) is ∙ ap pending_variables (map-append (λ (x : Bor Pattern). x.now) old (p ∷ [])) ∙ variables_push (lent old) p.now

more_size : (old new : List (Bor Pattern)) (p : Bor Pattern) → new ≡ old ++ p ∷ [] → pending_size (lent new) ≡ (1 + pattern_size p.now) + pending_size (lent old)
more_size old new p is = ap (λ (l : List (Bor Pattern)). pending_size (lent l)) is ∙ ap pending_size (map-append (λ (x : Bor Pattern). x.now) old (p ∷ [])) ∙ size_push (lent old) p.now

-- with one more of a row, which is gone through from its end
module _ (row : List Pattern) (i j k : ℕ) (p : Bor Pattern) (old new : List (Bor Pattern)) (within : i < length row) (here : j ≡ i) (next : k ≡ i + 1) (at : p.now ≡ get_or row i p.now) (is : new ≡ old ++ p ∷ []) where
  opened_row : drop j row ≡ p.now ∷ drop k row
  opened_row = ap (λ (n : ℕ). drop n row) here ∙ unrolled row i p.now within at ∙ ap (λ (n : ℕ). p.now ∷ drop n row) (sym next)

  pub row_variables : (start : List Identifier) → pending_variables (lent old) ≡ patterns_variables (patterns (drop k row)) ++ start → pending_variables (lent new) ≡ patterns_variables (patterns (drop j row)) ++ start
  row_variables start so_far =
      more_variables old new p is ∙ ap (λ (vs : List Identifier). pattern_variables p.now ++ vs) so_far ∙ sym (append_assoc (pattern_variables p.now) (patterns_variables (patterns (drop k row))) start)
      ∙ ap (λ (ps : List Pattern). patterns_variables (patterns ps) ++ start) (sym opened_row)

  pub row_size : (start : ℕ) → pending_size (lent old) ≡ patterns_size (patterns (drop k row)) + start → pending_size (lent new) ≡ patterns_size (patterns (drop j row)) + start
  row_size start so_far =
      let more : pending_size (lent new) ≡ (1 + pattern_size p.now) + pending_size (lent old) = more_size old new p is in
      let opened : patterns_size (patterns (drop j row)) ≡ (1 + pattern_size p.now) + patterns_size (patterns (drop k row)) = ap (λ (ps : List Pattern). patterns_size (patterns ps)) opened_row in
      omega (arith, more, opened, so_far)

-- the inner pattern of a pattern
module _ (pat inner : Pattern) (x : Bor Pattern) (old new : List (Bor Pattern)) (before : List Identifier) (same : x.now ≡ inner) (is : new ≡ old ++ x ∷ []) where
  inside : pending_variables (lent new) ≡ pattern_variables inner ++ pending_variables (lent old)
  inside = more_variables old new x is ∙ ap (λ (p : Pattern). pattern_variables p ++ pending_variables (lent old)) same

  smaller : pattern_size pat ≡ 1 + pattern_size inner → pending_size (lent new) ≤ pattern_size pat + pending_size (lent old)
  smaller sizes =
      let more : pending_size (lent new) ≡ (1 + pattern_size x.now) + pending_size (lent old) = more_size old new x is in
      let size : pattern_size x.now ≡ pattern_size inner = ap pattern_size same in
      omega (arith, sizes, more, size)

  pub bound_variables : (name : Identifier) (after : List Identifier) → pat ≡ bound_pattern name inner → after ≡ before ++ name ∷ [] → after ++ pending_variables (lent new) ≡ before ++ (pattern_variables pat ++ pending_variables (lent old))
  bound_variables name after opened pushed =
      ap (λ (vs : List Identifier). vs ++ pending_variables (lent new)) pushed ∙ append_assoc before (name ∷ []) (pending_variables (lent new)) ∙ ap (λ (vs : List Identifier). before ++ name ∷ vs) inside
      ∙ ap (λ (p : Pattern). before ++ (pattern_variables p ++ pending_variables (lent old))) (sym opened)

  pub bound_size : (name : Identifier) → pat ≡ bound_pattern name inner → pending_size (lent new) ≤ pattern_size pat + pending_size (lent old)
  bound_size name opened = smaller (ap pattern_size opened)

  pub lazy_variables : pat ≡ lazy_pattern inner → before ++ pending_variables (lent new) ≡ before ++ (pattern_variables pat ++ pending_variables (lent old))
  lazy_variables opened = ap (λ (vs : List Identifier). before ++ vs) inside ∙ ap (λ (p : Pattern). before ++ (pattern_variables p ++ pending_variables (lent old))) (sym opened)

  pub lazy_size : pat ≡ lazy_pattern inner → pending_size (lent new) ≤ pattern_size pat + pending_size (lent old)
  lazy_size opened = smaller (ap pattern_size opened)

-- with one less, which is opened
pub opened_variables : (old rest new : List (Bor Pattern)) (o : Option (Bor Pattern)) (p : Bor Pattern) (before after all : List Identifier) → old ≡ rest ++ option_to_list o → o ≡ Some p
    → after ++ pending_variables (lent new) ≡ before ++ (pattern_variables p.now ++ pending_variables (lent rest)) → before ++ pending_variables (lent old) ≡ all → after ++ pending_variables (lent new) ≡ all
opened_variables old rest new o p before after all is found step so_far =
    step ∙ ap (λ (vs : List Identifier). before ++ vs) (sym (more_variables rest old p (is ∙ ap (λ (x : Option (Bor Pattern)). rest ++ option_to_list x) found))) ∙ so_far

pub opened_size : (old rest new : List (Bor Pattern)) (o : Option (Bor Pattern)) (p : Bor Pattern) → old ≡ rest ++ option_to_list o → o ≡ Some p → pending_size (lent new) ≤ pattern_size p.now + pending_size (lent rest)
    → pending_size (lent new) < pending_size (lent old)
opened_size old rest new o p is found step =
    let more : pending_size (lent old) ≡ (1 + pattern_size p.now) + pending_size (lent rest) = more_size rest old p (is ∙ ap (λ (x : Option (Bor Pattern)). rest ++ option_to_list x) found) in
    omega (arith, more, step)
