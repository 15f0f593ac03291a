use Rattle.std.proofs.Common.{◌≡◌, List, Option, Some, None, IfSome, Bor, Contains, subst, sym}
use Rattle.hm_types.specs.declared.Entity.{Entity}
use Rattle.hm_types.specs.declared.entries.ConstructorEntry.{ConstructorEntry}
use Rattle.hm_types.specs.declared.entries.ValueEntry.{ValueEntry}
use Rattle.hm_types.specs.Interfaces.{Exports as Interface}
use Rattle.hm_types.specs.Schemes.{TypeScheme}
use Rattle.hm_uses.specs.declared.name_kind.NameKind.{NameKind}
use Rattle.hm_uses.specs.declared.name_kind.NameKind.TheVariants.{Variable, Constructor}
use Rattle.hm_build_places.specs.Typed.{HasScheme, of_constructor, of_variable}
use Rattle.hm_build_places.proofs.typed.scheme_in.Goals as goal

variable_scheme : (f : Interface) (e : Entity) (kind : NameKind) (values : List ValueEntry) (o : Option (Bor TypeScheme)) → values ≡ f.values → kind ≡ Variable
    → IfSome o (λ s. (v : ValueEntry) × (Contains values v × ((v.entity ≡ e) × (s.now ≡ v.scheme)))) → IfSome o (λ s. HasScheme f e s.now kind)
variable_scheme f e kind values None same is h = tt
variable_scheme f e kind values (Some s) same is h = subst (HasScheme f e s.now) (sym is) (of_variable (subst (λ l. Contains l h.0) same h.1.0) h.1.1.0 h.1.1.1)

constructor_scheme : (f : Interface) (e : Entity) (kind : NameKind) (constructors : List ConstructorEntry) (o : Option (Bor TypeScheme)) → constructors ≡ f.constructors → kind ≡ Constructor
    → IfSome o (λ s. (c : ConstructorEntry) × (Contains constructors c × ((c.entity ≡ e) × (s.now ≡ c.scheme)))) → IfSome o (λ s. HasScheme f e s.now kind)
constructor_scheme f e kind constructors None same is h = tt
constructor_scheme f e kind constructors (Some s) same is h = subst (HasScheme f e s.now) (sym is) (of_constructor (subst (λ l. Contains l h.0) same h.1.0) h.1.1.0 h.1.1.1)

pub returns-in-Variable-clause-some : goal.returns-in-Variable-clause-some
returns-in-Variable-clause-some c =
    variable_scheme c.args.interface.now c.args.entity.now c.args.kind c.values.result.now c.value_scheme.result c.values.ensures.value c.in-Variable.is c.value_scheme.ensures.some

pub returns-in-Constructor-clause-some : goal.returns-in-Constructor-clause-some
returns-in-Constructor-clause-some c =
    constructor_scheme c.args.interface.now c.args.entity.now c.args.kind c.constructors.result.now c.constructor_scheme.result c.constructors.ensures.value c.in-Constructor.is c.constructor_scheme.ensures.some
