-- The bindings with signatures that are faults begin at the places that are found.
use Rattle.std.proofs.Common.{◌≡◌, ℕ, Bool, List, Option, Some, refl, sym, ap, ◌∙◌, subst₂}
use Rattle.std.proofs.lemmas.Option.{get_or_from_slice_get, slice_get_within}
use Rattle.hm_typing.specs.Names.{Identifier as Name}
use Rattle.hm_syntax.specs.Trees.{Declaration, data_declaration, newtype_declaration, synonym_declaration, signature, clause, pattern_binding}
use Rattle.hm_syntax.specs.Lists.{declarations}
use Rattle.hm_names.specs.Cores.{known}
use Rattle.hm_names.specs.ModuleCores.{ModuleCore}
use Rattle.hm_names.specs.Syntax.{Known}
use Rattle.hm_names.proofs.OrderedLists.{one_of_contained, contained}
use Rattle.hm_names_keys.specs.Variables.{Variable}
use Rattle.hm_infer_context.specs.Environments.{Assumed, AreAssumed, assumptions}
use Rattle.hm_infer.specs.SignedFaults.{AreSignedFaults}
use Rattle.hm_infer.specs.Told.{IsStart, no_declaration, told_name}
use Rattle.hm_infer.specs.UnitStarts.{TellsSigned}
use Rattle.hm_infer.proofs.CoreStarts.{ListJudged}
use Rattle.hm_infer.proofs.FirstTold.{told_by}
use Rattle.hm_infer.proofs.SignedClauses.{IsClauseOf}
use Rattle.hm_infer.proofs.SignedTelling.{SignedTold, fault_tells, place_tells}

clause_shown : (x : Name) (d : Declaration) → IsClauseOf x d → told_name d ≡ Some (told_by d)
clause_shown x (data_declaration n ps cs) i = absurd i
clause_shown x (newtype_declaration n ps b) i = absurd i
clause_shown x (synonym_declaration n ps b) i = absurd i
clause_shown x (signature ns b) i = absurd i
clause_shown x (clause n ps r) i = refl
clause_shown x (pattern_binding l c p r) i = absurd i

signed_start : (c : ModuleCore) (base : List Assumed) (x : Name) (p : ℕ) → SignedTold c base x p → IsStart c c.decls x p
signed_start c base x p t = record {
  place = slice_get_within c.decls p t.start.declaration t.start.at;
  name = told_by t.start.declaration;
  told = t.told;
  shown = ap told_name (get_or_from_slice_get c.decls p t.start.declaration no_declaration t.start.at) ∙ clause_shown x t.start.declaration t.start.of_name;
}

pub tells_signed : (k : Known) (ds : List Declaration) (nodes : List (Option Variable)) (rows gs : List (List ℕ)) (es : List Assumed) (table : List Bool) (places : List ℕ) → AreAssumed 0 es → AreSignedFaults k (declarations ds) (assumptions es) nodes table ds places → TellsSigned k ds nodes rows gs es table places
tells_signed k ds nodes rows gs es table places closed_es told = λ o base closed found groups judged.
    let j : ListJudged nodes rows gs base es table (known o.core) o.core.decls = subst₂ (ListJudged nodes rows gs base es table) (sym o.known_is) (sym o.decls_are) (record { found = found; groups = groups; judged = judged }) in
    let t : AreSignedFaults (known o.core) (declarations o.core.decls) (assumptions es) nodes table o.core.decls places = subst₂ (λ a b. AreSignedFaults a (declarations b) (assumptions es) nodes table b places) (sym o.known_is) (sym o.decls_are) told in
    record {
      each = λ x i first fault.
          let h = fault_tells o.core o.is_core nodes rows j.found gs j.groups base es closed closed_es table j.judged places t x i fault in
          (h.0, (one_of_contained places h.0 h.1.0, signed_start o.core base x h.0 h.1.1));
      back = λ p i.
          let h = place_tells o.core o.is_core nodes rows j.found gs j.groups base es closed closed_es table j.judged places t p (contained places p i) in
          (h.0, (h.1.first, (h.1.is_fault, signed_start o.core base h.0 p h.1)));
    }
