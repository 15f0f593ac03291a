-- A core whose list was refused has no typing.
use Rattle.std.proofs.Common.{◌≡◌, List, Err, sym, ap₂, subst, subst₂}
use Rattle.hm_typing.specs.BindingLists.{HasSchemes}
use Rattle.hm_typing.specs.Names.{Identifier as Name}
use Rattle.hm_typing.specs.Schemes.{Scheme}
use Rattle.hm_syntax.specs.Trees.{Declaration}
use Rattle.hm_names.specs.Cores.{known, syntax_of, assumptions as assumptions_of}
use Rattle.hm_names.specs.ModuleCores.{ModuleCore}
use Rattle.hm_names.specs.Syntax.{Known}
use Rattle.hm_unify.specs.declared.faults.UnifyFault.{UnifyFault}
use Rattle.hm_unify.specs.declared.faults.UnifyFault.TheVariants.{Clash}
use Rattle.hm_infer_context.specs.Environments.{Assumed, assumptions}
use Rattle.hm_infer_expressions.specs.PrincipalLists.{Inferred}
use Rattle.hm_infer_expressions.specs.Stages.{list_of}

pub no_typing : (c : ModuleCore) (k : Known) (ds : List Declaration) (es es' : List Assumed) (e : UnifyFault) → e ≡ Clash → k ≡ known c → ds ≡ c.decls → assumptions es ≡ assumptions_of c → Inferred {X = Unit {0}} (list_of k ds) es es' (Err e) → (B : Name → Scheme) → ¬ (HasSchemes (assumptions_of c) (syntax_of c) B)
no_typing c k ds es es' e clash known_is decls_are same i B h = n B (subst₂ (λ A z. HasSchemes A z B) (sym same) (sym (ap₂ (λ a b. list_of a b) known_is decls_are)) h)
  where
    n : (D : Name → Scheme) → ¬ (HasSchemes (assumptions es) (list_of k ds) D)
    n = subst (λ z. Inferred {X = Unit {0}} (list_of k ds) es es' (Err z)) clash i
