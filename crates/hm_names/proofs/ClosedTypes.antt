-- The variables of a type whose synonyms are expanded are among its own.
use Rattle.std.proofs.Common.{◌≡◌, ℕ, zero, suc, Bool, true, false, List, [], ◌∷◌, ◌++◌, map, Option, None, Some, inl, inr, ⊎_elim, ◌↔◌, refl, sym, ap, ◌∙◌, subst, Contains, take, get_or, ◌<◌, ◌+◌, length, Bor, arith}
use Rattle.std.proofs.lemmas.Bool.{both_ways}
use Rattle.std.proofs.lemmas.List.{take_more, map-append}
use Rattle.std.proofs.lemmas.List.Elements.{Contains-append_left, Contains-append_right, Contains-append_cases, Contains-push_cases}
use Rattle.hm_types.specs.declared.Head.{Head}
use Rattle.hm_types.specs.declared.Head.TheVariants as head
use Rattle.hm_types.specs.Types.{Var, App, done, more}
use Rattle.hm_types.specs.Monotypes.{Mono, Monos, var, rigid}
use Rattle.hm_types.specs.Synonyms.{TypeSynonym, IsSynonym}
use Rattle.hm_syntax.specs.Names.{Identifier}
use Rattle.hm_syntax.specs.Trees.{TypeTree, variable_type, constructor_type, function_type, tuple_type, list_type, unit_type, TypeTrees, no_types, more_types}
use Rattle.hm_names.specs.Texts.{is_text_among}
use Rattle.hm_names.specs.Variables.{texts, type_variables, types_variables}
use Rattle.hm_names.specs.Expansion.{argument, applied_at, filled_at, all_filled_at, expanded}
use Rattle.hm_names.specs.Faults.Lists.{Repeats}
use Rattle.hm_names.specs.Resolved.{Resolver, type_with, types_with}
use Rattle.hm_names.specs.DeclaredSynonyms.{AreAmong, IsSound}
use Rattle.hm_names.specs.declared.namespace.Namespace.TheVariants.{Types}
use Rattle.hm_names.specs.Types.{entity_of, type_in, program_of, synonym_of}
use Rattle.hm_names.proofs.Members.{none_in, first, rest}
use Rattle.hm_names.proofs.Standing.{among_decides}
use Rattle.hm_names.proofs.TypesOfTrees.{no_rigid, arities, closed}

-- Expansion brings no variables in

of_argument : (i : ℕ) (ts : TypeTrees) (k : Identifier) → Contains (type_variables (argument i ts)) k → Contains (types_variables ts) k
of_argument i no_types k c = absurd (none_in k c)
of_argument zero (more_types t ts) k c = Contains-append_left (type_variables t) (types_variables ts) k c
of_argument (suc i) (more_types t ts) k c = Contains-append_right (type_variables t) (types_variables ts) k (of_argument i ts k c)

of_applied : (n : Identifier) (h : Head) (ts : TypeTrees) (k : Identifier) → Contains (type_variables (applied_at n h ts)) k → Contains (types_variables ts) k
of_applied n (head.Named e) ts k c = c
of_applied n head.Arrow no_types k c = absurd (none_in k c)
of_applied n head.Arrow (more_types a no_types) k c = absurd (none_in k c)
of_applied n head.Arrow (more_types a (more_types b ts)) k c = ⊎_elim
    (λ l. Contains-append_left (type_variables a) (type_variables b ++ types_variables ts) k l)
    (λ r. Contains-append_right (type_variables a) (type_variables b ++ types_variables ts) k (Contains-append_left (type_variables b) (types_variables ts) k r))
    (Contains-append_cases (type_variables a) (type_variables b) k c)
of_applied n head.List no_types k c = absurd (none_in k c)
of_applied n head.List (more_types t ts) k c = Contains-append_left (type_variables t) (types_variables ts) k c
of_applied n head.Unit ts k c = absurd (none_in k c)
of_applied n (head.Tuple j) ts k c = c

mutual
  of_filled : (n : Identifier) (ts : TypeTrees) (b : Mono) (k : Identifier) → Contains (type_variables (filled_at n ts b)) k → Contains (types_variables ts) k
  of_filled n ts (Var (var i)) k c = of_argument i ts k c
  of_filled n ts (Var (rigid i)) k c = absurd (none_in k c)
  of_filled n ts (App h us) k c = of_all_filled n ts us k (of_applied n h (all_filled_at n ts us) k c)

  of_all_filled : (n : Identifier) (ts : TypeTrees) (us : Monos) (k : Identifier) → Contains (types_variables (all_filled_at n ts us)) k → Contains (types_variables ts) k
  of_all_filled n ts done k c = absurd (none_in k c)
  of_all_filled n ts (more u us) k c = ⊎_elim (λ l. of_filled n ts u k l) (λ r. of_all_filled n ts us k r) (Contains-append_cases (type_variables (filled_at n ts u)) (types_variables (all_filled_at n ts us)) k c)

of_expanded : (o : Option TypeSynonym) (n : Identifier) (ts : TypeTrees) (k : Identifier) → Contains (type_variables (expanded o n ts)) k → Contains (types_variables ts) k
of_expanded None n ts k c = c
of_expanded (Some s) n ts k c = of_filled n ts s.body k c

mutual
  pub of_type : (r : Resolver) (t : TypeTree) (k : Identifier) → Contains (type_variables (type_with r t)) k → Contains (type_variables t) k
  of_type r (variable_type n) k c = c
  of_type r (constructor_type n ts) k c = of_types r ts k (of_expanded (r.synonym (entity_of (r.name Types [] n))) (r.name Types [] n) (types_with r ts) k c)
  of_type r (function_type a b) k c = ⊎_elim (λ l. Contains-append_left (type_variables a) (type_variables b) k (of_type r a k l)) (λ q. Contains-append_right (type_variables a) (type_variables b) k (of_type r b k q)) (Contains-append_cases (type_variables (type_with r a)) (type_variables (type_with r b)) k c)
  of_type r (tuple_type ts) k c = of_types r ts k c
  of_type r (list_type t) k c = of_type r t k c
  of_type r unit_type k c = c

  of_types : (r : Resolver) (ts : TypeTrees) (k : Identifier) → Contains (types_variables (types_with r ts)) k → Contains (types_variables ts) k
  of_types r no_types k c = c
  of_types r (more_types t ts) k c = ⊎_elim (λ l. Contains-append_left (type_variables t) (types_variables ts) k (of_type r t k l)) (λ q. Contains-append_right (type_variables t) (types_variables ts) k (of_types r ts k q)) (Contains-append_cases (type_variables (type_with r t)) (types_variables (types_with r ts)) k c)

-- a right side whose variables are among the parameters makes a synonym
pub makes_synonym : (vs : List (List ℕ)) (count : ℕ) (r : Resolver) (t u : TypeTree) (b : Mono) → count ≡ length vs → u ≡ type_with r t → b ≡ program_of (type_in vs u) → AreAmong vs (type_variables t) → IsSynonym (record { parameters = count; body = b })
makes_synonym vs count r t u b size tree is among =
    let body : b ≡ program_of (type_in vs (type_with r t)) = is ∙ ap (λ z. program_of (type_in vs z)) tree in
    subst (λ z. IsSynonym (record { parameters = count; body = z })) (sym body) (record {
      closed = λ n o. let l = closed vs (type_with r t) (λ k c. among k (of_type r t k c)) n o in omega (arith, size, l);
      not_rigid = no_rigid vs (type_with r t);
      arities = arities vs (type_with r t);
    })

pub synonym_made : (ps : List Identifier) (vs : List (List ℕ)) (count : ℕ) (r : Resolver) (t u : TypeTree) (s : TypeSynonym) (b : Mono) → count ≡ length vs → u ≡ type_with r t → b ≡ program_of (type_in vs u) → s ≡ record { parameters = count; body = b }
    → (((n : Identifier) → ¬ Repeats ps n) → vs ≡ texts ps) → IsSound ps t → s ≡ synonym_of ps (type_with r t)
synonym_made ps vs count r t u s b size tree body is named sound =
    let all : vs ≡ texts ps = named sound.distinct in
    is ∙ (λ i. record { parameters = (size ∙ (ap length all ∙ counted ps)) i; body = (body ∙ (ap (λ z. program_of (type_in vs z)) tree ∙ ap (λ z. program_of (type_in z (type_with r t))) all)) i })
  where
    counted : (ps : List Identifier) → length (texts ps) ≡ length ps
    counted [] = refl
    counted (p ∷ ps) = ap suc (counted ps)

pub not_sound : {A : Type 0} (ps : List Identifier) (vs : List (List ℕ)) (t : TypeTree) (b : Bool) → (b ≡ true) ↔ AreAmong vs (type_variables t) → b ≡ false → (((n : Identifier) → ¬ Repeats ps n) → vs ≡ texts ps) → IsSound ps t → A
not_sound ps vs t b says f named sound = absurd (both_ways b f (says.1 (subst (λ (l : List (List ℕ)). AreAmong l (type_variables t)) (sym (named sound.distinct)) sound.closed)))

-- Variables that are looked up in turn

pub among_more : (vs : List (List ℕ)) (used : List (Bor Identifier)) (i : ℕ) (n : Bor Identifier) (x : List ℕ) (b : Bool) → i < length used → n ≡ get_or used i n → x ≡ n.now.text → b ≡ is_text_among x vs → b ≡ true
    → AreAmong vs (map (λ n. n.now) (take i used)) → AreAmong vs (map (λ n. n.now) (take (i + 1) used))
among_more vs used i n x b h e name is t known = subst (λ (l : List Identifier). AreAmong vs l) (sym all) (λ k c. elim (Contains-push_cases (map (λ (n : Bor Identifier). n.now) (take i used)) n.now k c) [
  | inl o ↦ known k o
  | inr q ↦ subst (λ z. Contains vs z) (name ∙ ap (λ (z : Identifier). z.text) q) ((among_decides x vs).0 (sym is ∙ t))
])
  where
    all : map (λ (n : Bor Identifier). n.now) (take (i + 1) used) ≡ map (λ (n : Bor Identifier). n.now) (take i used) ++ n.now ∷ []
    all = ap (map (λ (n : Bor Identifier). n.now)) (take_more used i n h ∙ ap (λ z. take i used ++ z ∷ []) (sym e)) ∙ map-append (λ (n : Bor Identifier). n.now) (take i used) (n ∷ [])

pub not_among : (vs : List (List ℕ)) (used : List (Bor Identifier)) (ns : List Identifier) (i : ℕ) (n : Bor Identifier) (x : List ℕ) (b : Bool) → map (λ n. n.now) used ≡ ns → i < length used → n ≡ get_or used i n → x ≡ n.now.text → b ≡ is_text_among x vs → b ≡ false → (false ≡ true) ↔ AreAmong vs ns
not_among vs used ns i n x b same h e name is f = (
  λ z. cc,
  λ a. absurd (both_ways b f (is ∙ (among_decides x vs).1 (subst (λ z. Contains vs z) (sym name) (a n.now (subst (λ l. Contains l n.now) same (lent used i n h e)))))),
)
  where
    lent : (us : List (Bor Identifier)) (i : ℕ) (n : Bor Identifier) → i < length us → n ≡ get_or us i n → Contains (map (λ n. n.now) us) n.now
    lent [] i n h e = absurd (omega (arith, h))
    lent (u ∷ us) zero n h e = subst (λ (z : Bor Identifier). Contains (u.now ∷ map (λ n. n.now) us) z.now) (sym e) (first u.now (map (λ n. n.now) us))
    lent (u ∷ us) (suc i) n h e = rest u.now (map (λ n. n.now) us) n.now (lent us i n (omega (arith, h)) e)

pub all_among : (vs : List (List ℕ)) (used : List (Bor Identifier)) (ns : List Identifier) (i : ℕ) → map (λ n. n.now) used ≡ ns → take i used ≡ used → AreAmong vs (map (λ n. n.now) (take i used)) → (true ≡ true) ↔ AreAmong vs ns
all_among vs used ns i same all known = (λ e. subst (λ l. AreAmong vs l) (ap (map (λ (n : Bor Identifier). n.now)) all ∙ same) known, λ a. refl)
