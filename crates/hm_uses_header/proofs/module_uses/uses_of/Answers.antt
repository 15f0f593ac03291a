use Rattle.std.proofs.Common.{◌∙◌, ap, sym, subst, map, List, Bor, All}
use Rattle.hm_types.specs.Interfaces.{Exports as Interface}
use Rattle.hm_names.specs.Bindings.{IsScopeOf}
use Rattle.hm_scope_imports.specs.Apart.{AreNamedApart}
use Rattle.hm_uses.specs.Uses.{IsUse}
use Rattle.hm_uses_header.proofs.module_uses.uses_of.Goals as goal

pub uses_in-requires : goal.uses_in-requires
uses_in-requires c = subst AreNamedApart (sym (ap (map (λ (f : Bor Interface). f.now)) c.deref.ensures.value ∙ c.in_ok-interfaces.ensures)) c.requires

pub returns : goal.returns
returns c =
    let same = ap (map (λ (f : Bor Interface). f.now)) c.deref.ensures.value ∙ c.in_ok-interfaces.ensures in
    record {
      exact = c.in_ok-uses_in.ensures.names;
      right = subst (λ (fs : List Interface). All (IsUse c.args.program.now fs) c.in_ok-uses_in.field-0.items) same (c.in_ok-uses_in.ensures.meanings (subst (λ (fs : List Interface). IsScopeOf c.args.program.now fs c.in_ok-scope.scope) (sym same) c.in_ok-scope.ensures));
    }
