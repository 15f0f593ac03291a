-- The names of a core's binding list.
use Rattle.std.proofs.Common.{◌≡◌, ℕ, suc, Bool, true, false, cond, ◌&&◌, List, [], ◌∷◌, ◌++◌, length, map, Option, None, Some, refl, sym, ap, ap₂, ◌∙◌}
use Rattle.hm_typing.specs.Names.{Identifier as Name, global, binding}
use Rattle.hm_typing.specs.Syntax as typed
use Rattle.hm_typing.specs.Schemes.{Monotype}
use Rattle.hm_syntax.specs.Trees.{Pattern, variable_pattern, bound_pattern, constructor_pattern, literal_pattern, wildcard_pattern, tuple_pattern, list_pattern, lazy_pattern, Patterns, no_patterns, more_patterns, Declaration, data_declaration, newtype_declaration, synonym_declaration, signature, clause, pattern_binding, Declarations}
use Rattle.hm_syntax.specs.Lists.{declarations}
use Rattle.hm_syntax.specs.declared.ast.Module.{Module}
use Rattle.hm_names.specs.Texts.{same_text}
use Rattle.hm_names.specs.Variables.{pattern_variables, patterns_variables}
use Rattle.hm_names.specs.Entities.{own}
use Rattle.hm_names.specs.Syntax.{Known, pattern_of, patterns_of, bindings_of, is_continued, add_clause, bound_by, declaration_count}
use Rattle.hm_names.specs.Resolved.{Resolver, top, bare, pattern_with, patterns_with, declaration_with}
use Rattle.hm_names.specs.Faults.Lists.{has_patterns}

-- the names of a module's binding list, by its declarations
abbrev pub heads : Module → List Declaration → List Name
heads m [] = []
heads m (data_declaration n ps cs ∷ ds) = heads m ds
heads m (newtype_declaration n ps c ∷ ds) = heads m ds
heads m (synonym_declaration n ps t ∷ ds) = heads m ds
heads m (signature ns t ∷ ds) = heads m ds
heads m (clause n ps q ∷ ds) = cond (is_continued n.text ps (declarations ds)) (heads m ds) (global (own m n.text) ∷ heads m ds)
heads m (pattern_binding l c p q ∷ ds) = (map (λ n. global (own m n.text)) (pattern_variables p) ++ (binding m.header.name.text (length ds) ∷ [])) ++ heads m ds

names-add_clause : (f : typed.Clauses → typed.Clauses) (bs : typed.Bindings) → typed.names (add_clause f bs) ≡ typed.names bs
names-add_clause f typed.no_binding = refl
names-add_clause f (typed.unsigned x cs ds) = refl
names-add_clause f (typed.signed x s cs ds) = refl
names-add_clause f (typed.matched x p cs ds) = refl

names-bound_by : (x : Name) (s : Option Monotype) (cs : typed.Clauses) (ds : typed.Bindings) → typed.names (bound_by x s cs ds) ≡ x ∷ typed.names ds
names-bound_by x None cs ds = refl
names-bound_by x (Some s) cs ds = refl

names-either : (b : Bool) (f : typed.Clauses → typed.Clauses) (x : Name) (s : Option Monotype) (cs : typed.Clauses) (bs : typed.Bindings) (hs : List Name) → typed.names bs ≡ hs → typed.names (cond b (add_clause f bs) (bound_by x s cs bs)) ≡ cond b hs (x ∷ hs)
names-either true f x s cs bs hs e = names-add_clause f bs ∙ e
names-either false f x s cs bs hs e = names-bound_by x s cs bs ∙ ap (λ z. x ∷ z) e

pub map-++ : {X Y : Type 0} (f : X → Y) (xs ys : List X) → map f (xs ++ ys) ≡ map f xs ++ map f ys
map-++ f [] ys = refl
map-++ f (x ∷ xs) ys = ap (λ z. f x ∷ z) (map-++ f xs ys)

mutual
  names_of_pattern : (k : Known) (r : Resolver) (m : Module) (p : Pattern) → typed.pattern_names (pattern_of k (pattern_with r (top m) p)) ≡ map (λ n. global (own m n.text)) (pattern_variables p)
  names_of_pattern k r m (variable_pattern n) = refl
  names_of_pattern k r m (bound_pattern n p) = ap (λ z. global (own m n.text) ∷ z) (names_of_pattern k r m p)
  names_of_pattern k r m (constructor_pattern n ps) = names_of_patterns k r m ps
  names_of_pattern k r m (literal_pattern l) = refl
  names_of_pattern k r m wildcard_pattern = refl
  names_of_pattern k r m (tuple_pattern ps) = names_of_patterns k r m ps
  names_of_pattern k r m (list_pattern ps) = names_of_patterns k r m ps
  names_of_pattern k r m (lazy_pattern p) = names_of_pattern k r m p

  names_of_patterns : (k : Known) (r : Resolver) (m : Module) (ps : Patterns) → typed.patterns_names (patterns_of k (patterns_with r (top m) ps)) ≡ map (λ n. global (own m n.text)) (patterns_variables ps)
  names_of_patterns k r m no_patterns = refl
  names_of_patterns k r m (more_patterns p ps) =
      ap₂ (λ a b. a ++ b) (names_of_pattern k r m p) (names_of_patterns k r m ps) ∙ sym (map-++ (λ n. global (own m n.text)) (pattern_variables p) (patterns_variables ps))

patterns_kept : (r : Resolver) (ps : Patterns) → has_patterns (patterns_with r bare ps) ≡ has_patterns ps
patterns_kept r no_patterns = refl
patterns_kept r (more_patterns p ps) = refl

module _ (m : Module) (r : Resolver) where
  abbrev resolved_list : List Declaration → Declarations
  resolved_list ds = declarations (map (declaration_with r (top m) []) ds)

  continued_kept : (x : List ℕ) (ps : Patterns) (ds : List Declaration) → is_continued x (patterns_with r bare ps) (resolved_list ds) ≡ is_continued x ps (declarations ds)
  continued_kept x ps [] = refl
  continued_kept x ps (data_declaration n qs cs ∷ ds) = refl
  continued_kept x ps (newtype_declaration n qs c ∷ ds) = refl
  continued_kept x ps (synonym_declaration n qs t ∷ ds) = refl
  continued_kept x ps (signature ns t ∷ ds) = refl
  continued_kept x ps (clause n qs q ∷ ds) = ap₂ (λ a b. same_text x n.text && (a && b)) (patterns_kept r ps) (patterns_kept r qs)
  continued_kept x ps (pattern_binding l c p q ∷ ds) = refl

  count_kept : (ds : List Declaration) → declaration_count (resolved_list ds) ≡ length ds
  count_kept [] = refl
  count_kept (d ∷ ds) = ap suc (count_kept ds)

  pub names_of_list : (k : Known) (all : Declarations) (ds : List Declaration) → k.home ≡ m.header.name.text → typed.names (bindings_of k all (resolved_list ds)) ≡ heads m ds
  names_of_list k all [] h = refl
  names_of_list k all (data_declaration n ps cs ∷ ds) h = names_of_list k all ds h
  names_of_list k all (newtype_declaration n ps c ∷ ds) h = names_of_list k all ds h
  names_of_list k all (synonym_declaration n ps t ∷ ds) h = names_of_list k all ds h
  names_of_list k all (signature ns t ∷ ds) h = names_of_list k all ds h
  names_of_list k all (clause n ps q ∷ ds) h =
      names-either (is_continued n.text (patterns_with r bare ps) (resolved_list ds)) _ (global (own m n.text)) _ _ (bindings_of k all (resolved_list ds)) (heads m ds) (names_of_list k all ds h)
      ∙ ap (λ b. cond b (heads m ds) (global (own m n.text) ∷ heads m ds)) (continued_kept n.text ps ds)
  names_of_list k all (pattern_binding l c p q ∷ ds) h =
      λ i. (names_of_pattern k r m p i ++ (binding (h i) (count_kept ds i) ∷ [])) ++ names_of_list k all ds h i
