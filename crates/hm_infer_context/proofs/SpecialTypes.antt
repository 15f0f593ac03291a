-- The types of special constructors.
use Rattle.std.proofs.Common.{◌≡◌, ℕ, zero, suc, List, [], ◌∷◌, length, Bool, true, false, ◌==◌, cond, Option, Some, None, option_map, refl, sym, ap, ap₂, ◌∙◌, subst, zero-add}
use Rattle.hm_types.specs.Types.{App, Args, Var, done, more, put_all}
use Rattle.hm_types.specs.Monotypes.{Mono, var, list_of}
use Rattle.hm_types.specs.declared.Head.TheVariants as head
use Rattle.hm_types.specs.Schemes.{TypeScheme, HasNoRigid, AllHaveNoRigid, HasArities, AllHaveArities, canonical_of}
use Rattle.hm_typing.specs.Schemes.{Monotype, arrow}
use Rattle.hm_typing.specs.Patterns.{arguments, arrows, tuple}
use Rattle.hm_names.specs.Special.{Special, UnitValue, Nil, Cons, Tuple, special_arity, special_text, tuple_after, tuple_of}
use Rattle.hm_names.specs.Types.{declared_scheme, functions_from, program_of, special_type, variables_from}
use Rattle.hm_infer_context.specs.Patterns.{from_number}
use Rattle.hm_infer_context.specs.Problems.{monotype, number}
use Rattle.hm_infer_context.proofs.Leaves.{back, back-monotype}

-- The constructors of tuples are told by their sizes

told : Option Special → Option Special
told o = option_map Tuple (option_map special_arity o)

last_told : (n : ℕ) (b : Bool) → cond b (Some (Tuple n)) None ≡ told (cond b (Some (Tuple n)) None)
unfolding told
last_told n true = refl
last_told n false = refl

told_where : (b : Bool) (o : Option Special) → o ≡ told o → cond b o None ≡ told (cond b o None)
unfolding told
told_where true o e = e
told_where false o e = refl

after_told : (n : ℕ) (x : List ℕ) → tuple_after n x ≡ told (tuple_after n x)
unfolding told
after_told n [] = refl
after_told n (c ∷ []) = last_told (suc n) (c == 41)
after_told n (c ∷ d ∷ ds) = told_where (c == 44) (tuple_after (suc n) (d ∷ ds)) (after_told (suc n) (d ∷ ds))

tuple_told : (x : List ℕ) → tuple_of x ≡ told (tuple_of x)
unfolding told
tuple_told [] = refl
tuple_told (c ∷ []) = refl
tuple_told (c ∷ d ∷ ds) = told_where (c == 40) (cond (d == 44) (tuple_after 1 ds) None) (told_where (d == 44) (tuple_after 1 ds) (after_told 1 ds))

pub tuple_by_size : (x : List ℕ) (n : Option ℕ) → n ≡ option_map special_arity (tuple_of x) → tuple_of x ≡ option_map Tuple n
unfolding told
tuple_by_size x n e = tuple_told x ∙ ap (option_map Tuple) (sym e)

pub sized : (x : List ℕ) (n : ℕ) (o : Option ℕ) (t : Mono) → special_text x ≡ tuple_of x → o ≡ option_map special_arity (tuple_of x) → o ≡ Some n → t ≡ program_of (special_type (Tuple n)) → Some t ≡ option_map (λ s. program_of (special_type s)) (special_text x)
sized x n o t e f g h = ap Some h ∙ sym (ap (option_map (λ s. program_of (special_type s))) (e ∙ (tuple_by_size x o f ∙ ap (option_map Tuple) g)))

-- Types are the same where they are as the theory of typing has them

pub one_monotype : (t u : Mono) → monotype t ≡ monotype u → t ≡ u
one_monotype t u e = sym (back-monotype t) ∙ (ap back e ∙ back-monotype u)

number_from : (i : ℕ) → Var (number (var i)) ≡ from_number false 0 i
number_from i = ap (λ k. Var (number (var k))) (sym (zero-add i))

functions_shape : (i n : ℕ) (u : Monotype) → monotype (program_of (functions_from i n u)) ≡ arrows n (from_number false 0) i (monotype (program_of u))
functions_shape i zero u = refl
functions_shape i (suc n) u = ap₂ arrow (number_from i) (functions_shape (suc i) n u)

variables_shape : (i n : ℕ) → put_all (λ l. Var (number l)) (put_all (λ v. Var (var v)) (variables_from i n)) ≡ arguments n (from_number false 0) i
variables_shape i zero = refl
variables_shape i (suc n) = ap₂ more (number_from i) (variables_shape (suc i) n)

pub tuple_type_is : (n : ℕ) (outcome t : Mono) → monotype outcome ≡ tuple n (from_number false 0) → monotype t ≡ arrows n (from_number false 0) 0 (monotype outcome) → t ≡ program_of (special_type (Tuple n))
tuple_type_is n outcome t e f =
    one_monotype t (program_of (special_type (Tuple n)))
    (f ∙ (ap (arrows n (from_number false 0) 0) (e ∙ sym (ap (App (head.Tuple n)) (variables_shape 0 n))) ∙ sym (functions_shape 0 n (App (head.Tuple n) (variables_from 0 n)))))

-- They have no rigid variables, and each type constructor has its arguments

mutual
  program_no_rigid : (t : Monotype) → HasNoRigid (program_of t)
  program_no_rigid (Var n) = tt
  program_no_rigid (App h ts) = programs_no_rigid ts

  programs_no_rigid : (ts : Args ℕ) → AllHaveNoRigid (put_all (λ v. Var (var v)) ts)
  programs_no_rigid done = tt
  programs_no_rigid (more t ts) = (program_no_rigid t, programs_no_rigid ts)

functions_arities : (i n : ℕ) (u : Monotype) → HasArities (program_of u) → HasArities (program_of (functions_from i n u))
functions_arities i zero u a = a
functions_arities i (suc n) u a = (refl, (tt, (functions_arities (suc i) n u a, tt)))

variables_arities : (i n : ℕ) → AllHaveArities (put_all (λ v. Var (var v)) (variables_from i n))
variables_arities i zero = tt
variables_arities i (suc n) = (tt, variables_arities (suc i) n)

variables_many : (i n : ℕ) → length (list_of (put_all (λ v. Var (var v)) (variables_from i n))) ≡ n
variables_many i zero = refl
variables_many i (suc n) = ap suc (variables_many (suc i) n)

special_arities : (s : Special) → HasArities (program_of (special_type s))
special_arities UnitValue = (refl, tt)
special_arities Nil = (refl, (tt, tt))
special_arities Cons = (refl, (tt, ((refl, ((refl, (tt, tt)), ((refl, (tt, tt)), tt))), tt)))
special_arities (Tuple n) = functions_arities 0 n (App (head.Tuple n) (variables_from 0 n)) (variables_many 0 n, variables_arities 0 n)

-- The type that was found is that of a special constructor

some_one : {X : Type 0} {a b : X} → Some a ≡ Some b → a ≡ b
some_one h = cc

none_some : {X Y : Type 0} {a : X} → Some a ≡ None → Y
none_some h = cc

pub found_no_rigid : (o : Option Special) (t : Mono) → Some t ≡ option_map (λ s. program_of (special_type s)) o → HasNoRigid t
found_no_rigid (Some s) t e = subst HasNoRigid (sym (some_one e)) (program_no_rigid (special_type s))
found_no_rigid None t e = none_some e

pub found_arities : (o : Option Special) (t : Mono) → Some t ≡ option_map (λ s. program_of (special_type s)) o → HasArities t
found_arities (Some s) t e = subst HasArities (sym (some_one e)) (special_arities s)
found_arities None t e = none_some e

pub found_scheme : (o : Option Special) (t : Mono) (c : TypeScheme) → Some t ≡ option_map (λ s. program_of (special_type s)) o → c ≡ canonical_of t → Some c ≡ option_map (λ s. declared_scheme (special_type s)) o
found_scheme (Some s) t c e f = ap Some (f ∙ ap canonical_of (some_one e))
found_scheme None t c e f = none_some e

pub none_found : (o : Option Special) → None ≡ option_map (λ s. program_of (special_type s)) o → None ≡ option_map (λ s. declared_scheme (special_type s)) o
none_found (Some s) e = none_some (sym e)
none_found None e = refl
