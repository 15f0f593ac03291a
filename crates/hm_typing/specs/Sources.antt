-- Worked examples of sources, as trees.
use Rattle.hm_types.specs.declared.Head.TheVariants as head
use Rattle.std.specs.Prelude.{codes}
use Rattle.hm_types.specs.Types.{Var, App, done, more}
use Rattle.hm_typing.specs.Names.{Identifier, local, binding}
use Rattle.hm_typing.specs.Schemes.{Monotype, Scheme, arrow, monomorphic, closed, IsAtMostAsGeneral}
use Rattle.hm_typing.specs.Assumptions.{Assumptions, empty, bind, bind_all}
use Rattle.hm_typing.specs.Patterns.{list, Matches}
use Rattle.hm_typing.specs.Syntax.{Integer, Character, Text, Pattern, VariablePattern, ConstructorPattern, LiteralPattern, WildcardPattern, TuplePattern, no_pattern, pattern, Expression, Variable, Literal, Apply, Lambda, Let, Case, Tuple, Typed, no_expression, expression, Clauses, no_clause, clause, no_right_side, plain, guarded, Bindings, no_binding, unsigned, signed, matched, bool, literal_type, names}
use Rattle.hm_typing.specs.Typing.{HasType, HasClauses}
use Rattle.hm_typing.specs.BindingLists.{HasSchemes}

-- names; here every written name is local
abbrev pub f : Identifier
f = local (codes "f")

abbrev pub g : Identifier
g = local (codes "g")

abbrev pub x : Identifier
x = local (codes "x")

abbrev pub y : Identifier
y = local (codes "y")

abbrev pub z : Identifier
z = local (codes "z")

abbrev pub h : Identifier
h = local (codes "h")

abbrev pub s : Identifier
s = local (codes "s")

abbrev pub t : Identifier
t = local (codes "t")

abbrev pub not : Identifier
not = local (codes "not")

abbrev pub otherwise : Identifier
otherwise = local (codes "otherwise")

abbrev pub const : Identifier
const = local (codes "const")

abbrev pub as_type_of : Identifier
as_type_of = local (codes "asTypeOf")

abbrev pub undefined : Identifier
undefined = local (codes "undefined")

-- the names of two pattern bindings
abbrev pub first_binding : Identifier
first_binding = binding (codes "A") 0

abbrev pub second_binding : Identifier
second_binding = binding (codes "A") 1

-- types
abbrev pub int : Monotype
int = literal_type Integer

abbrev pub char : Monotype
char = literal_type Character

abbrev pub pair_type : Monotype → Monotype → Monotype
pair_type t u = App (head.Tuple 2) (more t (more u done))

-- a -> a, a -> b, a -> a -> a, a -> b -> a
abbrev pub identity : Monotype
identity = arrow (Var 0) (Var 0)

abbrev pub anything : Monotype
anything = arrow (Var 0) (Var 1)

abbrev pub same_type : Monotype
same_type = arrow (Var 0) (arrow (Var 0) (Var 0))

abbrev pub first_of_two : Monotype
first_of_two = arrow (Var 0) (arrow (Var 1) (Var 0))

-- a -> ((a, Int), (a, Char))
abbrev pub partly_type : Monotype
partly_type = arrow (Var 0) (pair_type (pair_type (Var 0) int) (pair_type (Var 0) char))

-- the type constructor Nest, and the types of the constructors Flat :: a -> Nest a, Deep :: Nest (a, a) -> Nest a, (:) and []
abbrev pub nest : Monotype → Monotype
nest a = App (head.Named (record { «module» = codes "A"; name = codes "Nest" })) (more a done)

abbrev pub flat_type : Monotype
flat_type = arrow (Var 0) (nest (Var 0))

abbrev pub deep_type : Monotype
deep_type = arrow (nest (pair_type (Var 0) (Var 0))) (nest (Var 0))

abbrev pub cons_type : Monotype
cons_type = arrow (Var 0) (arrow (list (Var 0)) (list (Var 0)))

abbrev pub nil_type : Monotype
nil_type = list (Var 0)

-- the type constructor Maybe, and the type of Just
abbrev pub maybe : Monotype → Monotype
maybe a = App (head.Named (record { «module» = codes "Prelude"; name = codes "Maybe" })) (more a done)

abbrev pub just_type : Monotype
just_type = arrow (Var 0) (maybe (Var 0))

-- (v, w)
abbrev pub pair_pattern : Identifier → Identifier → Pattern
pair_pattern v w = TuplePattern (pattern (VariablePattern v) (pattern (VariablePattern w) no_pattern))

-- .. = e
abbrev pub is : Expression → Clauses
is e = clause no_pattern (plain e no_right_side) no_binding no_clause

-- .. v = e
abbrev pub maps : Identifier → Expression → Clauses
maps v e = clause (pattern (VariablePattern v) no_pattern) (plain e no_right_side) no_binding no_clause

abbrev pub pair : Expression → Expression → Expression
pair a b = Tuple (expression a (expression b no_expression))

-- (h 1, h 'c')
abbrev pub used_twice : Identifier → Expression
used_twice h = pair (Apply (Variable h) (Literal Integer)) (Apply (Variable h) (Literal Character))

-- Expressions

-- let { g x = x } in (g 1, g 'c')
abbrev pub polymorphic_let : Expression
polymorphic_let = Let (unsigned g (maps x (Variable x)) no_binding) (used_twice g)

-- \g -> (g 1, g 'c')
abbrev pub polymorphic_lambda : Expression
polymorphic_lambda = Lambda (pattern (VariablePattern g) no_pattern) (used_twice g)

-- \x -> x :: Int
abbrev pub typed_body : Expression
typed_body = Lambda (pattern (VariablePattern x) no_pattern) (Typed (Variable x) int)

-- case "s" of { x : _ -> x ; [] -> 'z' }
abbrev pub case_of_text : Expression
case_of_text =
    Case (Literal Text)
    (clause (pattern (ConstructorPattern cons_type (pattern (VariablePattern x) (pattern WildcardPattern no_pattern))) no_pattern) (plain (Variable x) no_right_side) no_binding
    (clause (pattern (ConstructorPattern nil_type no_pattern) no_pattern) (plain (Literal Character) no_right_side) no_binding no_clause))

-- g 'c'
abbrev pub misuse : Expression
misuse = Apply (Variable g) (Literal Character)

-- Lists

-- f x = x x
abbrev pub self_application : Bindings
self_application = unsigned f (maps x (Apply (Variable x) (Variable x))) no_binding

-- f x = g x ; g :: a -> a ; g x = const x (f 1, f 'c')
abbrev pub through_signature : Bindings
through_signature = unsigned f (maps x (Apply (Variable g) (Variable x))) (signed g identity (maps x (Apply (Apply (Variable const) (Variable x)) (used_twice f))) no_binding)

-- f x = g x ; g y = f y
abbrev pub mutual_recursion : Bindings
mutual_recursion = unsigned f (maps x (Apply (Variable g) (Variable x))) (unsigned g (maps y (Apply (Variable f) (Variable y))) no_binding)

-- f x = let { g y = (x, y) } in (g 1, g 'c')
abbrev pub partly_polymorphic : Bindings
partly_polymorphic = unsigned f (maps x (Let (unsigned g (maps y (pair (Variable x) (Variable y))) no_binding) (used_twice g))) no_binding

-- f x | x = y | otherwise = 2 where { y = 1 }
abbrev pub guarded_clause : Bindings
guarded_clause =
    unsigned f
    (clause (pattern (VariablePattern x) no_pattern) (guarded (Variable x) (Variable y) (guarded (Variable otherwise) (Literal Integer) no_right_side)) (unsigned y (is (Literal Integer)) no_binding) no_clause)
    no_binding

-- f (Flat x) = 0 ; f (Deep x) = f x
abbrev pub nested_clauses : Clauses
nested_clauses =
    clause (pattern (ConstructorPattern flat_type (pattern (VariablePattern x) no_pattern)) no_pattern) (plain (Literal Integer) no_right_side) no_binding
    (clause (pattern (ConstructorPattern deep_type (pattern (VariablePattern x) no_pattern)) no_pattern) (plain (Apply (Variable f) (Variable x)) no_right_side) no_binding no_clause)

-- f :: Nest a -> Int, and without a signature
abbrev pub nested_type : Monotype
nested_type = arrow (nest (Var 0)) int

abbrev pub polymorphic_recursion : Bindings
polymorphic_recursion = signed f nested_type nested_clauses no_binding

abbrev pub unsigned_recursion : Bindings
unsigned_recursion = unsigned f nested_clauses no_binding

-- f x = x x ; g = f 1 ; s :: Int ; s = 'c' ; t = not s
abbrev pub some_faults : Bindings
some_faults =
    unsigned f (maps x (Apply (Variable x) (Variable x)))
    (unsigned g (is (Apply (Variable f) (Literal Integer))) (signed s int (is (Literal Character)) (unsigned t (is (Apply (Variable not) (Variable s))) no_binding)))

-- g :: Int -> Int ; g x = x
abbrev pub narrow_signature : Bindings
narrow_signature = signed g (arrow int int) (maps x (Variable x)) no_binding

-- f :: a -> b ; f x = x
abbrev pub too_general_signature : Bindings
too_general_signature = signed f anything (maps x (Variable x)) no_binding

-- f x = let { g :: a -> a ; g y = asTypeOf y x } in g
abbrev pub escaping_signature : Bindings
escaping_signature = unsigned f (maps x (Let (signed g identity (maps y (Apply (Apply (Variable as_type_of) (Variable y)) (Variable x))) no_binding) (Variable g))) no_binding

-- (f, g) = .. ; h = ..
abbrev pub pair_and_h : Expression → Expression → Bindings
pair_and_h e e' = matched first_binding (pair_pattern f g) (is e) (unsigned h (is e') no_binding)

-- (f, g) = (\x -> x, f 1) ; h = f 'c'
abbrev pub pattern_is_one_unit : Bindings
pattern_is_one_unit = pair_and_h (pair (Lambda (pattern (VariablePattern x) no_pattern) (Variable x)) (Apply (Variable f) (Literal Integer))) (Apply (Variable f) (Literal Character))

-- (f, g) = (\x -> x, 'c') ; h = (f 1, f g)
abbrev pub pattern_generalises : Bindings
pattern_generalises = pair_and_h (pair (Lambda (pattern (VariablePattern x) no_pattern) (Variable x)) (Literal Character)) (pair (Apply (Variable f) (Literal Integer)) (Apply (Variable f) (Variable g)))

-- (f, g) = (not 1, 1) ; h = not g
abbrev pub pattern_fault : Bindings
pattern_fault = pair_and_h (pair (Apply (Variable not) (Literal Integer)) (Literal Integer)) (Apply (Variable not) (Variable g))

-- x : y = "ab" ; Just z = undefined
abbrev pub matched_constructors : Bindings
matched_constructors =
    matched first_binding (ConstructorPattern cons_type (pattern (VariablePattern x) (pattern (VariablePattern y) no_pattern))) (is (Literal Text))
    (matched second_binding (ConstructorPattern just_type (pattern (VariablePattern z) no_pattern)) (is (Variable undefined)) no_binding)

-- (x, y) | y = (z, y) where { z = 1 }
abbrev pub guarded_pattern : Bindings
guarded_pattern =
    matched first_binding (pair_pattern x y)
    (clause no_pattern (guarded (Variable y) (pair (Variable z) (Variable y)) no_right_side) (unsigned z (is (Literal Integer)) no_binding) no_clause)
    no_binding

-- (x, y) | y = (1, 'c')
abbrev pub letter_as_guard : Bindings
letter_as_guard = matched first_binding (pair_pattern x y) (clause no_pattern (guarded (Variable y) (pair (Literal Integer) (Literal Character)) no_right_side) no_binding no_clause) no_binding

-- 3 = 'c' ; _ = not 1
abbrev pub nameless_faults : Bindings
nameless_faults = matched first_binding (LiteralPattern Integer) (is (Literal Character)) (matched second_binding WildcardPattern (is (Apply (Variable not) (Literal Integer))) no_binding)

-- Statements about them

-- under A some schemes type the list, and that of v is at least as general as σ
abbrev pub IsTypedWith : Assumptions → Bindings → Identifier → Scheme → Type 0
IsTypedWith A ds v σ = (B : Identifier → Scheme) × HasSchemes A ds B × IsAtMostAsGeneral σ (B v)

abbrev pub IsTyped : Assumptions → Expression → Monotype → Type 0
IsTyped A e t = HasType A e t

abbrev pub HasNoType : Assumptions → Expression → Type 0
HasNoType A e = (t : Monotype) → ¬ (HasType A e t)

abbrev pub HasNoSchemes : Assumptions → Bindings → Type 0
HasNoSchemes A ds = (B : Identifier → Scheme) → ¬ (HasSchemes A ds B)

-- the bindings of D have their types if each name of the list is assumed to have just its type
abbrev pub AreInOneGroup : Assumptions → (Identifier → Monotype) → Bindings → Type 0
AreInOneGroup C ts no_binding = Unit {0}
AreInOneGroup C ts (unsigned v cs D) = HasClauses C cs (ts v) × AreInOneGroup C ts D
AreInOneGroup C ts (signed v s cs D) = HasClauses C cs (ts v) × AreInOneGroup C ts D
AreInOneGroup C ts (matched k p cs D) = (Matches ts p (ts k) × HasClauses C cs (ts k)) × AreInOneGroup C ts D

-- no types, one for each name, type the whole list as one group
abbrev pub HasNoTypesAsOneGroup : Assumptions → Bindings → Type 0
HasNoTypesAsOneGroup A ds = (ts : Identifier → Monotype) → ¬ (AreInOneGroup (bind_all (names ds) (λ v. monomorphic (ts v)) A) ts ds)

-- undefined :: a, const :: a -> b -> a, otherwise :: Bool, not :: Bool -> Bool, asTypeOf :: a -> a -> a, g :: Int -> Int
abbrev pub with_undefined : Assumptions
with_undefined = bind undefined (closed (Var 0)) empty

abbrev pub with_const : Assumptions
with_const = bind const (closed first_of_two) empty

abbrev pub with_otherwise : Assumptions
with_otherwise = bind otherwise (closed bool) empty

abbrev pub with_not : Assumptions
with_not = bind not (closed (arrow bool bool)) empty

abbrev pub with_as_type_of : Assumptions
with_as_type_of = bind as_type_of (closed same_type) empty

abbrev pub with_narrow : Assumptions
with_narrow = bind g (closed (arrow int int)) empty
