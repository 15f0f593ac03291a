-- What the walk makes of names is what a resolver of the module makes of them.
use Rattle.std.proofs.Common.{◌≡◌, Bool, true, false, cond, List, [], ◌∷◌, refl, sym, ap, ◌∙◌, Decides}
use Rattle.hm_types.specs.declared.Entity.{Entity}
use Rattle.hm_types.specs.Interfaces.{Exports as Interface}
use Rattle.hm_syntax.specs.Names.{Identifier}
use Rattle.hm_syntax.specs.declared.ast.Module.{Module}
use Rattle.hm_names.specs.declared.namespace.Namespace.{Namespace}
use Rattle.hm_names.specs.declared.namespace.Namespace.TheVariants.{Types, Constructors, Values}
use Rattle.hm_names.specs.Described.{TypeDescription, type_meant}
use Rattle.hm_names.specs.Expansion.{as_entity}
use Rattle.hm_names.specs.Scope.{Means}
use Rattle.hm_names.specs.Walk.{Locals}
use Rattle.hm_names.specs.Resolved.{Resolver, IsResolver, synonym_meant}
use Rattle.hm_names.specs.Bindings.{entity, meaning_of, meaning_in}
use Rattle.hm_names.specs.Found.{Lookups, is_local, is_special, stays, as_meant, resolved_name, resolver_of, synonym_among}
use Rattle.hm_names.specs.NodeFaults.{AreLookupsOf}
use Rattle.hm_names.proofs.Agreement.{SameNames}
use Rattle.hm_names.proofs.Meant.{meant, one_meaning}
use Rattle.hm_names.proofs.Standing.{local_decides, special_decides, unless}

module _ (m : Module) (fs : List Interface) (k : Lookups) (known : AreLookupsOf m fs k) where
  stayed : (s : Namespace) (xs : Locals) (n : Identifier) → stays xs s n ≡ true → resolved_name k.pairs s xs n ≡ n
  unfolding resolved_name
  stayed s xs n e = ap (λ b. cond b n (as_meant (meaning_in k.pairs s n) n)) e

  moved : (s : Namespace) (xs : Locals) (n : Identifier) (e : Entity) → stays xs s n ≡ false → Means m fs s n e → resolved_name k.pairs s xs n ≡ as_entity n e
  unfolding resolved_name meaning_in
  moved s xs n e q t =
      let is : meaning_of k.pairs s n ≡ entity e = one_meaning m fs s n (meaning_of k.pairs s n) (entity e) (meant m fs k.pairs known.scope s n) t in
      ap (λ b. cond b n (as_meant (meaning_of k.pairs s n) n)) q ∙ ap (λ w. as_meant w n) is

  pub resolves : ((e : Entity) (d : TypeDescription) → type_meant m.header.name.text m.decls fs e ≡ Rattle.std.proofs.Common.Some d → synonym_among k.synonyms e ≡ synonym_meant (resolver_of k) d.meaning) → IsResolver m fs (resolver_of k)
  resolves synonyms = record {
    local = λ xs n l. stayed Values xs n ((local_decides xs n).1 l);
    value = λ xs n e l t. moved Values xs n e (unless (is_local xs n) (local_decides xs n) l) t;
    special = λ xs n l. stayed Constructors xs n ((special_decides n).1 l);
    constructor = λ xs n e l t. moved Constructors xs n e (unless (is_special n) (special_decides n) l) t;
    type = λ xs n e t. moved Types xs n e refl t;
    synonym = synonyms;
  }

  -- whatever synonyms it knows, it replaces names as each resolver of the module
  pub names_resolve : (r : Resolver) → IsResolver m fs r → SameNames m fs (resolver_of k) r
  names_resolve r a = record {
    local = λ xs n l. stayed Values xs n ((local_decides xs n).1 l) ∙ sym (a.local xs n l);
    value = λ xs n e l t. moved Values xs n e (unless (is_local xs n) (local_decides xs n) l) t ∙ sym (a.value xs n e l t);
    special = λ xs n l. stayed Constructors xs n ((special_decides n).1 l) ∙ sym (a.special xs n l);
    constructor = λ xs n e l t. moved Constructors xs n e (unless (is_special n) (special_decides n) l) t ∙ sym (a.constructor xs n e l t);
    type = λ xs n e t. moved Types xs n e refl t ∙ sym (a.type xs n e t);
  }
