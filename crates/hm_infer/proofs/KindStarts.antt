-- The units without signatures that are faults begin where their groups do.
use Rattle.std.proofs.Common.{◌≡◌, ℕ, zero, suc, ◌<◌, ◌≤◌, Bool, true, false, List, [], ◌∷◌, length, drop, get_or, Option, Some, inl, inr, refl, sym, subst, arith}
use Rattle.std.specs.List.{slice_get}
use Rattle.hm_typing.specs.Names.{Identifier as Name, IsOneOf}
use Rattle.hm_typing.specs.Syntax.{names}
use Rattle.hm_typing.specs.Orders.{AreNumberedGroups}
use Rattle.hm_typing.specs.Units.{IsUnsigned, SameUnit}
use Rattle.hm_typing.specs.Verdicts.{IsFirstIn, IsTypeFault}
use Rattle.hm_syntax.specs.Trees.{Declaration, data_declaration, newtype_declaration, synonym_declaration, signature, clause, pattern_binding, Declarations}
use Rattle.hm_syntax.specs.Lists.{declarations}
use Rattle.hm_names.specs.Cores.{IsSomeCore, known, syntax_of}
use Rattle.hm_names.specs.ModuleCores.{ModuleCore}
use Rattle.hm_infer_dependencies.proofs.Owned.{drop_at}
use Rattle.hm_infer_dependencies.specs.Groups.{node_name}
use Rattle.hm_infer_dependencies.specs.Nodes.{owner}
use Rattle.hm_names_keys.specs.Variables.{Variable}
use Rattle.hm_infer_dependencies.specs.declared.members.Member.{Member}
use Rattle.hm_infer_context.specs.Environments.{Assumed, AreAssumed, assumptions}
use Rattle.hm_infer.specs.JudgedUnits.{UnitsJudged}
use Rattle.hm_infer_expressions.specs.Stages.{IsListFound, list_of}
use Rattle.hm_infer.specs.Told.{IsStart, declaration_at, told_name}
use Rattle.hm_infer_results.specs.UnitFaults.{AreGroupsTold, GroupTold}
use Rattle.hm_infer.specs.UnitStarts.{AreGroupStarts, AreStartsOfKind, IsFaultStart}
use Rattle.hm_infer.proofs.FirstTold.{told_by}
use Rattle.hm_infer.proofs.GroupTelling.{UnitTold, group_tells}
use Rattle.hm_infer.proofs.ToldOnce.{one_first_name}
use Rattle.hm_infer.proofs.UnitFaults.{fault_told, plain_groups}

at_place : (ds : List Declaration) (p : ℕ) → p < length ds → slice_get ds p ≡ Some (declaration_at ds p)
at_place [] p l = absurd (omega (arith, l))
at_place (d ∷ ds) zero l = refl
at_place (d ∷ ds) (suc p) l = at_place ds p (omega (arith, l))

-- a declaration of a node tells its binding
owner_shown : (all : Declarations) (d : Declaration) (ds : List Declaration) (o : ℕ) → owner all (declarations (d ∷ ds)) ≡ Some o → told_name d ≡ Some (told_by d)
owner_shown all (data_declaration n ps cs) ds o e = cc
owner_shown all (newtype_declaration n ps b) ds o e = cc
owner_shown all (synonym_declaration n ps b) ds o e = cc
owner_shown all (signature ns b) ds o e = cc
owner_shown all (clause n ps r) ds o e = refl
owner_shown all (pattern_binding l c p r) ds o e = refl

told_at : (decls : List Declaration) (nodes : List (Option Variable)) (rows gs : List (List ℕ)) (typed bs : List Bool) (i : ℕ) → i < length gs → AreGroupsTold decls nodes rows gs typed bs → GroupTold decls nodes rows (get_or gs i []) typed (get_or bs i false)
told_at decls nodes rows [] typed bs i l h = absurd (omega (arith, l))
told_at decls nodes rows (g ∷ gs) typed [] i l h = absurd h
told_at decls nodes rows (g ∷ gs) typed (b ∷ bs) zero l h = h.0
told_at decls nodes rows (g ∷ gs) typed (b ∷ bs) (suc i) l h = told_at decls nodes rows gs typed bs i (omega (arith, l)) h.1

one_of_at : (gs : List (List ℕ)) (i : ℕ) → i < length gs → IsOneOf (get_or gs i []) gs
one_of_at [] i l = absurd (omega (arith, l))
one_of_at (g ∷ gs) zero l = inl refl
one_of_at (g ∷ gs) (suc i) l = inr (one_of_at gs i (omega (arith, l)))

place_of : (gs : List (List ℕ)) (g : List ℕ) → IsOneOf g gs → (i : ℕ) × ((i < length gs) × (get_or gs i [] ≡ g))
place_of [] g o = absurd o
place_of (h ∷ gs) g (inl e) = (zero, (omega arith, sym e))
place_of (h ∷ gs) g (inr o) = let r = place_of gs g o in (suc r.0, (let l = r.1.0 in omega (arith, l), r.1.1))

module _ (c : ModuleCore) (s : IsSomeCore c) (nodes : List (Option Variable)) (rows : List (List ℕ)) (found : IsListFound (known c) c.decls nodes rows) (gs : List (List ℕ)) (groups : AreNumberedGroups (list_of (known c) c.decls) (node_name (known c) (declarations c.decls)) (length nodes) gs)
    (base es : List Assumed) (closed : AreAssumed 0 base) (table : List Bool) (u : UnitsJudged (known c) c.decls gs (length nodes) (length gs) base es table) (flags : List Bool) (told : AreGroupsTold c.decls nodes rows gs table flags) where
  -- the unit of a member of a group that is a fault begins with the group's first declaration
  record BegunAt (member : Name) (p : ℕ) : Type 0 where
    name : Name
    of_unit : SameUnit (list_of (known c) c.decls) member name
    first : IsFirstIn (list_of (known c) c.decls) name (names (list_of (known c) c.decls))
    is_fault : IsTypeFault (assumptions base) (list_of (known c) c.decls) name
    start : IsStart c c.decls name p

  begun_at : (i p j : ℕ) → IsFaultStart rows gs flags i p → IsOneOf j (get_or gs i []) → BegunAt (node_name (known c) (declarations c.decls) j) p
  begun_at i p j f o = record {
    name = t.name;
    of_unit = t.of_unit;
    first = t.first;
    is_fault = t.is_fault;
    start = subst (IsStart c c.decls t.name) f.start.first.0.1.1 (record { place = inside.0; name = told_by d; told = t.told; shown = owner_shown (declarations c.decls) d (drop (suc m.place) c.decls) m.node (subst (λ z. owner (declarations c.decls) (declarations z) ≡ Some m.node) (drop_at c.decls m.place d e) inside.1) });
  }
    where
      m : Member
      m = f.start.first.0.0

      one : IsOneOf (get_or gs i []) gs
      one = one_of_at gs i f.inside

      inside : (m.place < length c.decls) × (owner (declarations c.decls) (declarations (drop m.place c.decls)) ≡ Some m.node)
      inside = (found.rows_are.each m.node m.place).0 ((f.start.are_members m).0 f.start.first.0.1.0).1

      d : Declaration
      d = declaration_at c.decls m.place

      e : slice_get c.decls m.place ≡ Some d
      e = at_place c.decls m.place inside.0

      t : UnitTold c base (node_name (known c) (declarations c.decls) j) d
      t = group_tells c s nodes rows found gs groups base es closed table u (get_or gs i []) one ((plain_groups (known c) c.decls nodes rows found gs groups base es closed table u).below (get_or gs i []) one) j o
          (subst (GroupTold c.decls nodes rows (get_or gs i []) table) f.fault (told_at c.decls nodes rows gs table flags i f.inside told))
          f.start.members f.start.are_members m f.start.first.0.1.0 (λ q r. subst (λ z. z ≤ q.place) (sym f.start.first.0.1.1) (f.start.first.1 q r)) d e

  pub unsigned_kind : (starts : List ℕ) → AreGroupStarts rows gs flags (length gs) starts → AreStartsOfKind c (assumptions base) (λ x. IsUnsigned x (syntax_of c)) starts
  unsigned_kind starts a = record { each = each; back = back }
    where
      back : (p : ℕ) → IsOneOf p starts → (x : Name) × (IsFirstIn (syntax_of c) x (names (syntax_of c)) × (IsTypeFault (assumptions base) (syntax_of c) x × IsStart c c.decls x p))
      back p o =
          let h = a.back p o in
          let t = begun_at h.0 p h.1.start.first.0.0.node h.1 ((h.1.start.are_members h.1.start.first.0.0).0 h.1.start.first.0.1.0).0 in
          (t.name, (t.first, (t.is_fault, t.start)))

      each : (x : Name) → IsUnsigned x (syntax_of c) → IsFirstIn (syntax_of c) x (names (syntax_of c)) → IsTypeFault (assumptions base) (syntax_of c) x → (p : ℕ) × (IsOneOf p starts × IsStart c c.decls x p)
      each x ux first fault =
          let j = groups.named x ux in
          let g = groups.all j.0 j.1 in
          let i = place_of gs g.0 g.1 in
          let o : IsOneOf j.0 (get_or gs i.0 []) = subst (IsOneOf j.0) (sym i.1.1) g.2 in
          let flag : get_or flags i.0 false ≡ true = (fault_told (known c) c.decls nodes rows found gs groups base es closed table u gs flags (λ h q. q) told i.0 j.0 i.1.0 o).1 (subst (IsTypeFault (assumptions base) (syntax_of c)) j.2 fault) in
          let h = a.each i.0 i.1.0 i.1.0 flag in
          let t = begun_at i.0 h.0 j.0 h.1.1 o in
          let same : x ≡ t.name = one_first_name (syntax_of c) x t.name (names (syntax_of c)) (subst (λ z. SameUnit (syntax_of c) z t.name) (sym j.2) t.of_unit) first t.first in
          (h.0, (h.1.0, subst (λ z. IsStart c c.decls z h.0) (sym same) t.start))
