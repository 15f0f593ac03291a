-- What is known of a fault beyond its kind and its name.
use Rattle.std.specs.Prelude.{◌≡◌, ◌⊎◌, ℕ, ⊤, List, Option, option_map}
use Rattle.hm_lex.specs.declared.token.Place.{Place}
use Rattle.hm_types.specs.declared.Entity.{Entity}
use Rattle.hm_types.specs.Interfaces.{Exports as Interface}
use Rattle.hm_syntax.specs.declared.ast.Module.{Module}
use Rattle.hm_names.specs.Bindings.{Pair}
use Rattle.hm_names.specs.Faults.Phases.{written_in}
use Rattle.hm_names.specs.Scope.{InScope}
use Rattle.hm_names.specs.declared.faults.Fault.{Fault}
use Rattle.hm_names.specs.declared.faults.Kind.TheVariants.{Ambiguous, Arity, ClauseLength, Duplicate, NoBinding, NonLinear, NotExported, Unbound}
use Rattle.hm_names.specs.declared.namespace.Namespace.{Namespace}
use Rattle.hm_messages_details.specs.Candidates.{Candidate, IsCandidate}
use Rattle.hm_messages_details.specs.Counts.{AreArguments, AreLengths}
use Rattle.hm_messages_details.specs.Firsts.{IsFirst}
use Rattle.hm_messages_details.specs.LeftOut.{IsOfReport}
use Rattle.hm_messages_details.specs.Listed.{IsListedFrom}
use Rattle.hm_messages_details.specs.NearExports.{IsNearExportOf}
use Rattle.hm_messages_details.specs.NearBindings.{HasNearBinding}
use Rattle.hm_messages_details.specs.NearLocals.{HasNearLocal}
use Rattle.hm_messages_details.specs.Nearness.{AreNear, IsSmallForm}
use Rattle.hm_messages_details.specs.PatternBindings.{HasPatternBound}
use Rattle.hm_messages_details.specs.Roles.{CanStand, CanStandInCapitals, HasRole}
use Rattle.hm_messages_details.specs.declared.detail.Candidate.{Candidate as LentCandidate}
use Rattle.hm_messages_details.specs.declared.detail.Detail.{Detail}
use Rattle.hm_messages_details.specs.declared.detail.Detail.TheVariants as detail
use Rattle.hm_messages_details.specs.declared.detail.Origin.{Origin}
use Rattle.hm_messages_details.specs.declared.role.Role.{Role}

-- nothing; a name in scope that is near, by its qualifier and its text; a local variable that is near; the Report's Prelude has the name, as what it stands for; two entities that it stands for; the place of
-- the first name that is the same; its arguments and how many it takes; the patterns of the clause and of the first one; the module that doesn't export
-- the name, or not as a constructor of a type, and a near name that it exports; a near name that the list of the signature binds; the namespace in which the name is in scope; a pattern
-- binds the variable of the signature
pub data Known : Type 0 where
  nothing : Known
  near : Option (List ℕ) → List ℕ → Known
  near_local : List ℕ → Known
  of_report : Known
  either : Candidate → Candidate → Known
  first : Place → Known
  arguments : ℕ → ℕ → Known
  lengths : ℕ → ℕ → Known
  not_from : List ℕ → Option (List ℕ) → Option (List ℕ) → Known
  near_binding : List ℕ → Known
  elsewhere : Namespace → Known
  by_pattern : Known

abbrev pub entity_of : Origin → Entity
entity_of o = record { «module» = o.«module».now; name = o.name.now }

abbrev pub candidate_of : LentCandidate → Candidate
candidate_of c = record { entity = entity_of c.origin; qualifier = option_map (λ q. q.now) c.qualifier; line = c.line; implicit = c.is_implicit }

abbrev pub known_of : Detail → Known
known_of detail.Nothing = nothing
known_of (detail.Near q x) = near (option_map (λ s. s.now) q) x.now
known_of (detail.NearLocal x) = near_local x.now
known_of detail.LeftOut = of_report
known_of (detail.Either c d) = either (candidate_of c) (candidate_of d)
known_of (detail.First p) = first p
known_of (detail.Arguments here takes) = arguments here takes
known_of (detail.Patterns here others) = lengths here others
known_of (detail.NotFrom x t y) = not_from x.now (option_map (λ s. s.now) t) (option_map (λ s. s.now) y)
known_of (detail.NearBinding x) = near_binding x.now
known_of (detail.Elsewhere s) = elsewhere s
known_of detail.ByPattern = by_pattern

-- after the same qualifier, the name of the pair can be written there and is near to this one, or it can be written there and this one is its small form
pub record IsNearPair (r : Role) (name : List ℕ) (p : Pair) : Type 0 where
  pub text : List ℕ
  pub written : name ≡ written_in p.qualifier text
  pub near : (CanStand r p.space × AreNear text p.text) ⊎ (CanStandInCapitals r p.space × IsSmallForm text p.text)

-- the pair has this name in this namespace
pub record IsEntityFor (name : List ℕ) (space : Namespace) (p : Pair) : Type 0 where
  pub within : p.space ≡ space
  pub written : name ≡ written_in p.qualifier p.text

abbrev pub IsPairInScope : Module → List Interface → Pair → Type 0
IsPairInScope m fs p = InScope m fs p.space p.qualifier p.text p.entity

-- a near name is in scope, and can stand for what the name of the fault stands for
pub record IsNear (m : Module) (fs : List Interface) (f : Fault) (q : Option (List ℕ)) (x : List ℕ) : Type 0 where
  pub role : Role
  pub stands : HasRole m f role
  pub pair : Pair
  pub in_scope : IsPairInScope m fs pair
  pub qualifier_is : pair.qualifier ≡ q
  pub text_is : pair.text ≡ x
  pub is_near : IsNearPair role f.name pair

-- the name stands for both entities, which differ, in one namespace (Report, section 5.5.2)
pub record IsEither (m : Module) (fs : List Interface) (name : List ℕ) (c d : Candidate) : Type 0 where
  pub space : Namespace
  pub one : Pair
  pub one_in_scope : IsPairInScope m fs one
  pub one_named : IsEntityFor name space one
  pub one_is : IsCandidate m fs space one.entity c
  pub other : Pair
  pub other_in_scope : IsPairInScope m fs other
  pub other_named : IsEntityFor name space other
  pub other_is : IsCandidate m fs space other.entity d
  pub differ : ¬ (one.entity ≡ other.entity)

-- the name is in scope in this namespace (Report, section 1.4)
pub record IsElsewhere (m : Module) (fs : List Interface) (name : List ℕ) (space : Namespace) : Type 0 where
  pub pair : Pair
  pub in_scope : IsPairInScope m fs pair
  pub named : IsEntityFor name space pair

-- what is known of a fault of a module with these interfaces is so
abbrev pub IsKnown : Module → List Interface → Fault → Known → Type 0
IsKnown m fs f nothing = ⊤
IsKnown m fs f (near q x) = (f.kind ≡ Unbound) × IsNear m fs f q x
IsKnown m fs f (near_local x) = (f.kind ≡ Unbound) × HasNearLocal m f x
IsKnown m fs f of_report = (f.kind ≡ Unbound) × IsOfReport m f
IsKnown m fs f (either c d) = (f.kind ≡ Ambiguous) × IsEither m fs f.name c d
IsKnown m fs f (first p) = ((f.kind ≡ Duplicate) ⊎ (f.kind ≡ NonLinear)) × IsFirst m f p
IsKnown m fs f (arguments here takes) = (f.kind ≡ Arity) × AreArguments m fs f here takes
IsKnown m fs f (lengths here others) = (f.kind ≡ ClauseLength) × AreLengths m f here others
IsKnown m fs f (not_from x t y) = (f.kind ≡ NotExported) × (IsListedFrom m f x t × IsNearExportOf fs f x t y)
IsKnown m fs f (near_binding x) = (f.kind ≡ NoBinding) × HasNearBinding m f x
IsKnown m fs f (elsewhere s) = (f.kind ≡ Unbound) × IsElsewhere m fs f.name s
IsKnown m fs f by_pattern = (f.kind ≡ NoBinding) × HasPatternBound m f
