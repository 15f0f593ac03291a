-- The types of constructors as they are made.
use Rattle.std.proofs.Common.{◌≡◌, ℕ, zero, suc, ◌+◌, List, [], ◌∷◌, ◌++◌, map, length, Option, Some, refl, sym, ap, ap₂, ◌∙◌, subst, arith, add-zero, zero-add, add-one, option_to_list, Contains}
use Rattle.std.proofs.lemmas.List.{map-append}
use Rattle.hm_types.specs.declared.Entity.{Entity}
use Rattle.hm_types.specs.declared.Head.TheVariants as head
use Rattle.hm_types.specs.declared.monotypes.Ty.{Ty}
use Rattle.hm_types.specs.Monotypes.{Mono, var, arguments_of}
use Rattle.hm_types.specs.Schemes.{HasNoRigid, AllHaveNoRigid, HasArities, AllHaveArities, canonical_of}
use Rattle.hm_types.specs.Shape.{type_of, types_of}
use Rattle.hm_types.specs.Types.{Var, App, done, more, put_all}
use Rattle.hm_syntax.specs.Lists.{types}
use Rattle.hm_syntax.specs.Names.{Identifier}
use Rattle.hm_syntax.specs.Trees.{TypeTree, DataConstructor, data_constructor}
use Rattle.hm_names.specs.DeclaredSchemes.{functions_to, numbered}
use Rattle.hm_names.specs.Entities.{named}
use Rattle.hm_names.specs.DeclaredSchemes.{fact_in}
use Rattle.hm_names.specs.DeclaredSynonyms.{IsSound}
use Rattle.hm_types.specs.Synonyms.{IsSynonym}
use Rattle.hm_names.specs.Types.{type_in, program_of, arguments_to, parameters_from, constructor_type_in, synonym_of}
use Rattle.hm_names.specs.Variables.{texts}
use Rattle.hm_names.proofs.TypesOfTrees.{no_rigid, arities, closed}

abbrev TheTypes : List (List ℕ) → List TypeTree → List Mono
TheTypes vs ts = map (λ t. program_of (type_in vs t)) ts

pub numbered_more : (i n : ℕ) → numbered i (n + 1) ≡ numbered i n ++ Var (var (i + n)) ∷ []
numbered_more i n = ap (λ k. numbered i k) (add-one n) ∙ go i n
  where
    go : (i n : ℕ) → numbered i (suc n) ≡ numbered i n ++ Var (var (i + n)) ∷ []
    go i zero = ap (λ k. Var (var k) ∷ []) (sym (add-zero i))
    go i (suc n) = ap (λ l. Var (var i) ∷ l) (go (suc i) n ∙ ap (λ k. numbered (suc i) n ++ Var (var k) ∷ []) (omega arith))

pub function_more : (ts : List Mono) (t u : Mono) → functions_to (ts ++ t ∷ []) u ≡ functions_to ts (App head.Arrow (more t (more u done)))
function_more [] t u = refl
function_more (s ∷ ts) t u = ap (λ z. App head.Arrow (more s (more z done))) (function_more ts t u)

-- the parameters
parameters_are : (i : ℕ) (ps : List Identifier) → arguments_of (numbered i (length ps)) ≡ put_all (λ v. Var (var v)) (parameters_from i ps)
parameters_are i [] = refl
parameters_are i (p ∷ ps) = ap (λ z. more (Var (var i)) z) (parameters_are (suc i) ps)

functions_are : (vs : List (List ℕ)) (ts : List TypeTree) (u : Rattle.hm_typing.specs.Schemes.Monotype) → functions_to (TheTypes vs ts) (program_of u) ≡ program_of (arguments_to vs (types ts) u)
functions_are vs [] u = refl
functions_are vs (t ∷ ts) u = ap (λ z. App head.Arrow (more (program_of (type_in vs t)) (more z done))) (functions_are vs ts u)

pub scheme_is : (m : List ℕ) (t : Identifier) (ps : List Identifier) (n : Identifier) (ts : List TypeTree) (c : DataConstructor) (vs : List (List ℕ)) (e : Entity) (us args : List Mono) (b : Mono) → data_constructor n (types ts) ≡ c → vs ≡ texts ps → e ≡ named m t.text
    → us ≡ numbered 0 (length ps) → args ≡ TheTypes vs ts → b ≡ functions_to args (App (head.Named e) (arguments_of us)) → canonical_of b ≡ (fact_in m t ps c).scheme
scheme_is m t ps n ts c vs e us args b tree named_by owner parameters arguments is =
    let outcome : App (head.Named e) (arguments_of us) ≡ program_of (App (head.Named (named m t.text)) (parameters_from 0 ps)) =
    ap (λ z. App (head.Named z) (arguments_of us)) owner ∙ ap (λ z. App (head.Named (named m t.text)) z) (ap arguments_of parameters ∙ parameters_are 0 ps) in
    let whole : b ≡ program_of (constructor_type_in (named m t.text) ps (types ts)) =
    is ∙ ap₂ (λ l u. functions_to l u) (arguments ∙ ap (λ z. TheTypes z ts) named_by) outcome ∙ functions_are (texts ps) ts (App (head.Named (named m t.text)) (parameters_from 0 ps)) in
    ap canonical_of whole ∙ ap (λ z. (fact_in m t ps z).scheme) tree

-- what it has

numbered_no_rigid : (i n : ℕ) → AllHaveNoRigid (arguments_of (numbered i n))
numbered_no_rigid i zero = tt
numbered_no_rigid i (suc n) = (tt, numbered_no_rigid (suc i) n)

numbered_arities : (i n : ℕ) → AllHaveArities (arguments_of (numbered i n))
numbered_arities i zero = tt
numbered_arities i (suc n) = (tt, numbered_arities (suc i) n)

functions_no_rigid : (vs : List (List ℕ)) (ts : List TypeTree) (u : Mono) → HasNoRigid u → HasNoRigid (functions_to (TheTypes vs ts) u)
functions_no_rigid vs [] u h = h
functions_no_rigid vs (t ∷ ts) u h = (no_rigid vs t, (functions_no_rigid vs ts u h, tt))

functions_arities : (vs : List (List ℕ)) (ts : List TypeTree) (u : Mono) → HasArities u → HasArities (functions_to (TheTypes vs ts) u)
functions_arities vs [] u h = h
functions_arities vs (t ∷ ts) u h = (refl, (arities vs t, (functions_arities vs ts u h, tt)))

module _ (vs : List (List ℕ)) (ts : List TypeTree) (e : Entity) (us args : List Mono) (n : ℕ) (b : Mono) (parameters : us ≡ numbered 0 n) (arguments : args ≡ TheTypes vs ts) (is : b ≡ functions_to args (App (head.Named e) (arguments_of us))) where
  made : b ≡ functions_to (TheTypes vs ts) (App (head.Named e) (arguments_of (numbered 0 n)))
  made = is ∙ ap₂ (λ l u. functions_to l (App (head.Named e) (arguments_of u))) arguments parameters

  pub made_no_rigid : HasNoRigid b
  made_no_rigid = subst HasNoRigid (sym made) (functions_no_rigid vs ts _ (numbered_no_rigid 0 n))

  pub made_arities : HasArities b
  made_arities = subst HasArities (sym made) (functions_arities vs ts _ (tt, numbered_arities 0 n))

pub numbered_push : (n : ℕ) → numbered 0 (n + 1) ≡ numbered 0 n ++ Var (var n) ∷ []
numbered_push n = numbered_more 0 n ∙ ap (λ k. numbered 0 n ++ Var (var k) ∷ []) (zero-add n)

pub pushed_variable : (old new : List Ty) (n : ℕ) (x : Ty) → new ≡ old ++ x ∷ [] → type_of x ≡ Var (var n) → types_of old ≡ numbered 0 n → types_of new ≡ numbered 0 (n + 1)
pushed_variable old new n x is shown before = ap types_of is ∙ map-append type_of old (x ∷ []) ∙ ap₂ (λ l t. l ++ t ∷ []) before shown ∙ sym (numbered_push n)

pub popped_argument : (old new : List Ty) (o : Option Ty) (x t u : Ty) (total : Mono) → old ≡ new ++ option_to_list o → o ≡ Some x → type_of u ≡ App head.Arrow (more (type_of x) (more (type_of t) done)) → functions_to (types_of old) (type_of t) ≡ total → functions_to (types_of new) (type_of u) ≡ total
popped_argument old new o x t u total is found made so_far =
    ap (λ z. functions_to (types_of new) z) made ∙ sym (function_more (types_of new) (type_of x) (type_of t))
    ∙ ap (λ l. functions_to l (type_of t)) (sym (ap types_of (is ∙ ap (λ z. new ++ option_to_list z) found) ∙ map-append type_of new (x ∷ []))) ∙ so_far

counted : (ps : List Identifier) → length (texts ps) ≡ length ps
counted [] = refl
counted (p ∷ ps) = ap suc (counted ps)

module _ (ps : List Identifier) (vs : List (List ℕ)) (t : TypeTree) (count : ℕ) (b : Mono) (sound : IsSound ps t) (named_by : vs ≡ texts ps) (size : count ≡ length vs) (is : b ≡ program_of (type_in vs t)) where
  pub synonym_fits : IsSynonym (record { parameters = count; body = b })
  synonym_fits = subst (λ z. IsSynonym (record { parameters = count; body = z })) (sym is) (record {
    closed = λ n o. let l = closed vs t (λ k c. subst (λ z. Contains z k.text) (sym named_by) (sound.closed k c)) n o in omega (arith, size, l);
    not_rigid = no_rigid vs t;
    arities = arities vs t;
  })

  pub synonym_equal : record { parameters = count; body = b } ≡ synonym_of ps t
  synonym_equal = λ i. record { parameters = (size ∙ ap length named_by ∙ counted ps) i; body = (is ∙ ap (λ z. program_of (type_in z t)) named_by) i }
