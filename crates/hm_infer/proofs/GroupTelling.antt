-- A group of a core that is a fault is told by its first declaration.
use Rattle.std.proofs.Common.{◌≡◌, ℕ, ◌<◌, ◌≤◌, List, length, Bool, true, Option, Some, inl, inr, refl, ap, ◌∙◌, subst}
use Rattle.std.specs.List.{slice_get}
use Rattle.hm_typing.specs.Names.{Identifier as Name, IsOneOf}
use Rattle.hm_typing.specs.Syntax.{names}
use Rattle.hm_typing.specs.Orders.{AreNumberedGroups}
use Rattle.hm_typing.specs.Units.{IsUnsigned, SameUnit}
use Rattle.hm_typing.specs.Verdicts.{IsFirstIn, IsTypeFault}
use Rattle.hm_typing.proofs.FaultLists.{SameUnit-trans, fault_from, own_same, same_own}
use Rattle.hm_typing.proofs.Judge.{Reaches-unsigned}
use Rattle.hm_typing.proofs.Matching.{together}
use Rattle.hm_syntax.specs.Trees.{Declaration}
use Rattle.hm_syntax.specs.Lists.{declarations}
use Rattle.hm_names.specs.Cores.{IsSomeCore, known}
use Rattle.hm_names.specs.ModuleCores.{ModuleCore}
use Rattle.hm_names.specs.Untyped.{IsTold}
use Rattle.hm_infer_dependencies.proofs.Reached.{names_long}
use Rattle.hm_infer_dependencies.specs.GroupMembers.{AreMembersOf}
use Rattle.hm_infer_dependencies.specs.Groups.{node_name}
use Rattle.hm_names_keys.specs.Variables.{Variable}
use Rattle.hm_infer_dependencies.specs.declared.members.Member.{Member}
use Rattle.hm_infer_context.specs.Environments.{Assumed, AreAssumed, assumptions}
use Rattle.hm_infer.specs.JudgedUnits.{UnitsJudged}
use Rattle.hm_infer_expressions.specs.Stages.{IsListFound, list_of}
use Rattle.hm_infer_results.specs.UnitFaults.{GroupTold}
use Rattle.hm_infer.proofs.FirstTold.{FirstTold, core_by_text, first_member, is_first_in, told_by}
use Rattle.hm_infer.proofs.GroupFirst.{unit_told}
use Rattle.hm_infer.proofs.UnitFaults.{group_fault, last_next, tests}

-- the first name of the unit of a member, that is a fault and told by this declaration
pub record UnitTold (c : ModuleCore) (base : List Assumed) (member : Name) (d : Declaration) : Type 0 where
  pub name : Name
  pub of_unit : SameUnit (list_of (known c) c.decls) member name
  pub first : IsFirstIn (list_of (known c) c.decls) name (names (list_of (known c) c.decls))
  pub is_fault : IsTypeFault (assumptions base) (list_of (known c) c.decls) name
  pub told : IsTold c name c.decls (told_by d)

module _ (c : ModuleCore) (s : IsSomeCore c) (nodes : List (Option Variable)) (rows : List (List ℕ)) (found : IsListFound (known c) c.decls nodes rows) (gs : List (List ℕ)) (groups : AreNumberedGroups (list_of (known c) c.decls) (node_name (known c) (declarations c.decls)) (length nodes) gs)
    (base es : List Assumed) (closed : AreAssumed 0 base) (table : List Bool) (u : UnitsJudged (known c) c.decls gs (length nodes) (length gs) base es table) (group : List ℕ) (one : IsOneOf group gs) (numbers : (j : ℕ) → IsOneOf j group → j < length nodes) (j : ℕ) (member : IsOneOf j group) where
  pub group_tells : GroupTold c.decls nodes rows group table true → (ms : List Member) → AreMembersOf rows group ms → (m : Member) → IsOneOf m ms → ((o : Member) → IsOneOf o ms → m.place ≤ o.place) → (d : Declaration) → slice_get c.decls m.place ≡ Some d → UnitTold c base (node_name (known c) (declarations c.decls) j) d
  group_tells told ms members m o least d e = record {
    name = t.name;
    of_unit = same;
    first = is_first_in c (known c) refl (declarations c.decls) texts.0 (u.layout.own (node_name (known c) (declarations c.decls) j)) (list_of (known c) c.decls) t.name (names (list_of (known c) c.decls)) (λ y r. inside y (SameUnit-trans (list_of (known c) c.decls) same r)) t.first;
    is_fault = fault_from (assumptions base) (list_of (known c) c.decls) (node_name (known c) (declarations c.decls) j) t.name same ((group_fault (known c) c.decls nodes rows found gs groups base es closed table u group one numbers j member true told).0 refl);
    told = t.told;
  }
    where
      texts : (own : List ℕ → Name) × Rattle.hm_infer.proofs.FirstTold.AreByText own c.decls
      texts = core_by_text c s

      t : FirstTold c (known c) refl (declarations c.decls) texts.0 (u.layout.own (node_name (known c) (declarations c.decls) j)) c.decls (told_by d)
      t = unit_told c (known c) refl c.decls texts.0 texts.1 u.layout.units.0 u.layout.own (together (list_of (known c) c.decls) u.layout.own u.layout.units) (length nodes) (ap length found.nodes_are ∙ names_long (known c) (declarations c.decls) (declarations c.decls)) found.apart
          group numbers (u.layout.own (node_name (known c) (declarations c.decls) j)) (tests (known c) c.decls nodes rows found gs groups base es closed table u group one numbers j member) (last_next (list_of (known c) c.decls) u.layout (node_name (known c) (declarations c.decls) j)).whole groups.unsigned_names
          rows found.rows_are ms members m o least d e

      same : SameUnit (list_of (known c) c.decls) (node_name (known c) (declarations c.decls) j) t.name
      same = own_same (list_of (known c) c.decls) u.layout.own u.layout.units (node_name (known c) (declarations c.decls) j) t.name (first_member c (known c) refl (declarations c.decls) texts.0 (u.layout.own (node_name (known c) (declarations c.decls) j)) t.name (names (list_of (known c) c.decls)) t.first)

      unsigned_one : (y : Name) → SameUnit (list_of (known c) c.decls) (node_name (known c) (declarations c.decls) j) y → IsUnsigned y (list_of (known c) c.decls)
      unsigned_one y (inl r) = subst (λ z. IsUnsigned z (list_of (known c) c.decls)) r (groups.unsigned_names j (numbers j member))
      unsigned_one y (inr r) = Reaches-unsigned (list_of (known c) c.decls) r.0

      inside : (y : Name) → SameUnit (list_of (known c) c.decls) (node_name (known c) (declarations c.decls) j) y → u.layout.own (node_name (known c) (declarations c.decls) j) y ≡ true
      inside y r = same_own (list_of (known c) c.decls) u.layout.own u.layout.units (node_name (known c) (declarations c.decls) j) y (unsigned_one y r) r
