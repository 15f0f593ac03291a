-- Rows of trees are the same where their lists are.
use Rattle.std.proofs.Common.{◌≡◌, List, [], ◌∷◌, length, refl, ap, Option, None, Some}
use Rattle.hm_syntax.specs.Trees.{TypeTree, DataConstructor, Pattern, Expression, Declaration, Alternative}
use Rattle.hm_syntax.specs.Lists.{types, constructors, patterns, expressions, declarations, alternatives, bodies}

pub types_same : (ts us : List TypeTree) → types ts ≡ types us → ts ≡ us
types_same [] [] e = refl
types_same [] (u ∷ us) e = cc
types_same (t ∷ ts) [] e = cc
types_same (t ∷ ts) (u ∷ us) e = let rest : ts ≡ us = types_same ts us (cc) in cc

pub constructors_same : (cs ds : List DataConstructor) → constructors cs ≡ constructors ds → cs ≡ ds
constructors_same [] [] e = refl
constructors_same [] (d ∷ ds) e = cc
constructors_same (c ∷ cs) [] e = cc
constructors_same (c ∷ cs) (d ∷ ds) e = let rest : cs ≡ ds = constructors_same cs ds (cc) in cc

pub patterns_same : (ps qs : List Pattern) → patterns ps ≡ patterns qs → ps ≡ qs
patterns_same [] [] e = refl
patterns_same [] (q ∷ qs) e = cc
patterns_same (p ∷ ps) [] e = cc
patterns_same (p ∷ ps) (q ∷ qs) e = let rest : ps ≡ qs = patterns_same ps qs (cc) in cc

pub expressions_same : (es fs : List Expression) → expressions es ≡ expressions fs → es ≡ fs
expressions_same [] [] e = refl
expressions_same [] (g ∷ fs) e = cc
expressions_same (f ∷ es) [] e = cc
expressions_same (f ∷ es) (g ∷ fs) e = let rest : es ≡ fs = expressions_same es fs (cc) in cc

pub alternatives_same : (xs ys : List Alternative) → alternatives xs ≡ alternatives ys → xs ≡ ys
alternatives_same [] [] e = refl
alternatives_same [] (y ∷ ys) e = cc
alternatives_same (x ∷ xs) [] e = cc
alternatives_same (x ∷ xs) (y ∷ ys) e = let rest : xs ≡ ys = alternatives_same xs ys (cc) in cc

pub declarations_same : (xs ys : List Declaration) → declarations xs ≡ declarations ys → xs ≡ ys
declarations_same [] [] e = refl
declarations_same [] (y ∷ ys) e = cc
declarations_same (x ∷ xs) [] e = cc
declarations_same (x ∷ xs) (y ∷ ys) e = let rest : xs ≡ ys = declarations_same xs ys (cc) in cc

pub bodies_same : (ps qs : List (Option Expression × Expression)) → bodies ps ≡ bodies qs → ps ≡ qs
bodies_same [] [] e = refl
bodies_same [] ((None, f) ∷ qs) e = cc
bodies_same [] ((Some h, f) ∷ qs) e = cc
bodies_same ((None, x) ∷ ps) [] e = cc
bodies_same ((Some g, x) ∷ ps) [] e = cc
bodies_same ((None, x) ∷ ps) ((None, f) ∷ qs) e = let rest : ps ≡ qs = bodies_same ps qs (cc) in cc
bodies_same ((None, x) ∷ ps) ((Some h, f) ∷ qs) e = cc
bodies_same ((Some g, x) ∷ ps) ((None, f) ∷ qs) e = cc
bodies_same ((Some g, x) ∷ ps) ((Some h, f) ∷ qs) e = let rest : ps ≡ qs = bodies_same ps qs (cc) in cc

-- and then they are as long

pub types_as_long : (ts us : List TypeTree) → types ts ≡ types us → length ts ≡ length us
types_as_long ts us e = ap length (types_same ts us e)

pub patterns_as_long : (ps qs : List Pattern) → patterns ps ≡ patterns qs → length ps ≡ length qs
patterns_as_long ps qs e = ap length (patterns_same ps qs e)

pub expressions_as_long : (es fs : List Expression) → expressions es ≡ expressions fs → length es ≡ length fs
expressions_as_long es fs e = ap length (expressions_same es fs e)

pub alternatives_as_long : (xs ys : List Alternative) → alternatives xs ≡ alternatives ys → length xs ≡ length ys
alternatives_as_long xs ys e = ap length (alternatives_same xs ys e)

pub declarations_as_long : (xs ys : List Declaration) → declarations xs ≡ declarations ys → length xs ≡ length ys
declarations_as_long xs ys e = ap length (declarations_same xs ys e)

pub bodies_as_long : (ps qs : List (Option Expression × Expression)) → bodies ps ≡ bodies qs → length ps ≡ length qs
bodies_as_long ps qs e = ap length (bodies_same ps qs e)
