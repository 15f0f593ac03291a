-- Rows of trees, one after the other.
use Rattle.std.proofs.Common.{◌≡◌, ℕ, zero, suc, ◌+◌, ◌<◌, ◌≤◌, ◌&&◌, Bool, true, false, List, [], ◌∷◌, drop, length, get_or, refl, sym, ap, ◌∙◌, subst, arith, not, Some, take, ◌-◌, ◌==◌, Option, None, ◌⊎◌, ⊎_elim, inl, inr}
use Rattle.std.proofs.Math.Seq.{drop-cons}
use Rattle.std.specs.List.{slice_get}
use Rattle.hm_syntax.specs.Names.{Identifier}
use Rattle.std.proofs.lemmas.Bool.{both_ways}
use Rattle.std.proofs.lemmas.Bool.Decides.{nat_tests}
use Rattle.std.proofs.lemmas.List.{take_all, length-drop}
use Rattle.hm_names_keys.proofs.Pushed.{some_injective}
use Rattle.hm_syntax.specs.Trees.{Pattern, Patterns, RightSide, Declaration, clause, Expression, Alternative, Bodies, no_bodies}
use Rattle.hm_syntax.specs.Lists.{patterns, declarations, expressions, alternatives, body, bodies}
use Rattle.hm_syntax.specs.Sizes.{pattern_size, patterns_size, expression_size, expressions_size, declaration_size, declarations_size, alternative_size, alternatives_size, bodies_size}
use Rattle.hm_names_keys.specs.Variables.{Variable}
use Rattle.hm_infer_dependencies.specs.References.{BodiesRefer}
use Rattle.hm_names.specs.Faults.Lists.{has_patterns}
use Rattle.hm_names.specs.Syntax.{is_continued}
use Rattle.hm_names.specs.Texts.{same_text}

pub unrolled : {X : Type 0} (xs : List X) (i : ℕ) (d : X) → i < length xs → d ≡ get_or xs i d → drop i xs ≡ d ∷ drop (i + 1) xs
unrolled xs i d h e =
    let k : suc i ≡ i + 1 = omega arith in
    drop-cons xs i d h ∙ (ap (λ z. z ∷ drop (suc i) xs) (sym e) ∙ ap (λ n. d ∷ drop n xs) k)

pub past : {X : Type 0} (xs : List X) (i : ℕ) → length xs ≤ i → drop i xs ≡ []
past [] zero h = refl
past [] (suc i) h = refl
past (t ∷ ts) zero h = absurd (omega (arith, h))
past (t ∷ ts) (suc i) h = past ts i (omega (arith, h))

-- sizes fall

pattern_at : (ps : List Pattern) (i : ℕ) (d : Pattern) → i < length ps → pattern_size (get_or ps i d) < patterns_size (patterns ps)
pattern_at [] i d h = absurd (omega arith)
pattern_at (p ∷ ps) zero d h = omega arith
pattern_at (p ∷ ps) (suc i) d h = let smaller : pattern_size (get_or ps i d) < patterns_size (patterns ps) = pattern_at ps i d (omega arith) in omega arith

pub pattern_falls : (ps : List Pattern) (i : ℕ) (d : Pattern) → i < length ps → d ≡ get_or ps i d → pattern_size d < patterns_size (patterns ps)
pattern_falls ps i d h e = rw e (pattern_at ps i d h)

-- clauses that stand together

suc_not_zero : (n : ℕ) → (suc n == 0) ≡ false
suc_not_zero n = grind (arith, nat_tests)

pub has_patterns-is : (ps : List Pattern) → has_patterns (patterns ps) ≡ not (length ps == 0)
has_patterns-is [] = refl
has_patterns-is (p ∷ ps) = sym (ap not (suc_not_zero (length ps)))

pub continued_at : (x : List ℕ) (ps : Patterns) (rest : List Declaration) (d : Declaration) (n : Identifier) (qs : Patterns) (r : RightSide) → slice_get rest 0 ≡ Some d → d ≡ clause n qs r → is_continued x ps (declarations rest) ≡ same_text x n.text && (has_patterns ps && has_patterns qs)
continued_at x ps [] d n qs r h e = cc
continued_at x ps (f ∷ rest) d n qs r h e = subst (λ z. is_continued x ps (declarations (z ∷ rest)) ≡ same_text x n.text && (has_patterns ps && has_patterns qs)) (sym (some_injective h ∙ e)) refl

pub both_given : (a b c : Bool) → a ≡ true → b ≡ true → (a && (b && c)) ≡ c
both_given true true c e f = refl
both_given true false c e f = absurd (both_ways false refl f)
both_given false b c e f = absurd (both_ways false refl e)

pub take_rest : {X : Type 0} (xs : List X) (i : ℕ) → take (length xs - i) (drop i xs) ≡ drop i xs
take_rest xs i = take_all (length xs - i) (drop i xs) (omega (arith, length-drop i xs))

-- sizes of the rows of expressions

expression_at : (es : List Expression) (i : ℕ) (d : Expression) → i < length es → expression_size (get_or es i d) < expressions_size (expressions es)
expression_at [] i d h = absurd (omega arith)
expression_at (p ∷ ps) zero d h = omega arith
expression_at (p ∷ ps) (suc i) d h = let smaller : expression_size (get_or ps i d) < expressions_size (expressions ps) = expression_at ps i d (omega arith) in omega arith

pub expression_falls : (es : List Expression) (i : ℕ) (d : Expression) → i < length es → d ≡ get_or es i d → expression_size d < expressions_size (expressions es)
expression_falls es i d h e = rw e (expression_at es i d h)

declaration_at : (es : List Declaration) (i : ℕ) (d : Declaration) → i < length es → declaration_size (get_or es i d) < declarations_size (declarations es)
declaration_at [] i d h = absurd (omega arith)
declaration_at (p ∷ ps) zero d h = omega arith
declaration_at (p ∷ ps) (suc i) d h = let smaller : declaration_size (get_or ps i d) < declarations_size (declarations ps) = declaration_at ps i d (omega arith) in omega arith

pub declaration_falls : (es : List Declaration) (i : ℕ) (d : Declaration) → i < length es → d ≡ get_or es i d → declaration_size d < declarations_size (declarations es)
declaration_falls es i d h e = rw e (declaration_at es i d h)

alternative_at : (es : List Alternative) (i : ℕ) (d : Alternative) → i < length es → alternative_size (get_or es i d) < alternatives_size (alternatives es)
alternative_at [] i d h = absurd (omega arith)
alternative_at (p ∷ ps) zero d h = omega arith
alternative_at (p ∷ ps) (suc i) d h = let smaller : alternative_size (get_or ps i d) < alternatives_size (alternatives ps) = alternative_at ps i d (omega arith) in omega arith

pub alternative_falls : (es : List Alternative) (i : ℕ) (d : Alternative) → i < length es → d ≡ get_or es i d → alternative_size d < alternatives_size (alternatives es)
alternative_falls es i d h e = rw e (alternative_at es i d h)

-- the size of a right side and its guard
abbrev pub option_size : Option Expression → ℕ
option_size None = 0
option_size (Some g) = expression_size g

abbrev pub part_size : Option Expression × Expression → ℕ
part_size p = option_size p.0 + expression_size p.1

body_grows : (g : Option Expression) (e : Expression) (gs : Bodies) → option_size g + expression_size e + bodies_size gs < bodies_size (body g e gs)
body_grows None e gs = omega arith
body_grows (Some g) e gs = omega arith

part_at : (es : List (Option Expression × Expression)) (i : ℕ) (d : Option Expression × Expression) → i < length es → part_size (get_or es i d) < bodies_size (bodies es)
part_at [] i d h = absurd (omega arith)
part_at (p ∷ ps) zero d h = omega (arith, body_grows p.0 p.1 (bodies ps))
part_at (p ∷ ps) (suc i) d h = omega (arith, body_grows p.0 p.1 (bodies ps), part_at ps i d (omega arith))

pub part_falls : (es : List (Option Expression × Expression)) (i : ℕ) (d : Option Expression × Expression) → i < length es → d ≡ get_or es i d → part_size d < bodies_size (bodies es)
part_falls es i d h e = rw e (part_at es i d h)

-- a part before others
pub bodies_cons : (p : Option Expression × Expression) (ps : List (Option Expression × Expression)) (y : Variable) → BodiesRefer y (body p.0 p.1 no_bodies) ⊎ BodiesRefer y (bodies ps) → BodiesRefer y (bodies (p ∷ ps))
bodies_cons p ps y h = to p.0 p.1 h
  where
    to : (g : Option Expression) (e : Expression) → BodiesRefer y (body g e no_bodies) ⊎ BodiesRefer y (bodies ps) → BodiesRefer y (body g e (bodies ps))
    to None e h = ⊎_elim (λ k. ⊎_elim inl (λ z. absurd z) k) inr h
    to (Some g) e h = ⊎_elim (λ k. ⊎_elim inl (λ k2. inr (⊎_elim inl (λ z. absurd z) k2)) k) (λ r. inr (inr r)) h

pub bodies_parts : (p : Option Expression × Expression) (ps : List (Option Expression × Expression)) (y : Variable) → BodiesRefer y (bodies (p ∷ ps)) → BodiesRefer y (body p.0 p.1 no_bodies) ⊎ BodiesRefer y (bodies ps)
bodies_parts p ps y h = to p.0 p.1 h
  where
    to : (g : Option Expression) (e : Expression) → BodiesRefer y (body g e (bodies ps)) → BodiesRefer y (body g e no_bodies) ⊎ BodiesRefer y (bodies ps)
    to None e h = ⊎_elim (λ k. inl (inl k)) inr h
    to (Some g) e h = ⊎_elim (λ k. inl (inl k)) (λ k. ⊎_elim (λ k2. inl (inr (inl k2))) inr k) h
