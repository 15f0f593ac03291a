use Rattle.std.proofs.Common.{◌≡◌, ◌∙◌, ◌∷◌, ◌++◌, List, ap, map, option_map, subst}
use Rattle.std.specs.Prelude.{option_to_list}
use Rattle.std.specs.Arc.{arc_value}
use Rattle.std.specs.List.{AllZip, filter}
use Rattle.hm_names.specs.Bindings.{Pair}
use Rattle.hm_scope_names.specs.Meant.{IsMeant}
use Rattle.hm_scope_typed_names.specs.Typed.{IsTypedName, begins}
use Rattle.hm_scope_typed_names.proofs.Growing.{exactly, still_apart}
use Rattle.hm_types.specs.Interfaces.{Exports as Interface}
use Rattle.hm_scope_typed_names.proofs.typed.typed_names.Goals as goal

pub returns : goal.returns
returns c =
    let fs : List Interface = c.args.prelude.now ∷ map arc_value c.args.imports.now in
    let all : List Interface = fs ++ option_to_list (option_map (λ f. f.now) c.args.wanted.now.own) in
    let f = begins c.args.wanted.now.prefix.now in
    let meant = c.in_ok-bindings.bindings.items in
    let names = c.in_ok-names.names.items in
    let same : map (λ f. f.now) c.as_slice-2.result.now ≡ all = ap (map (λ f. f.now)) c.as_slice-2.ensures.value ∙ c.in_ok-interfaces.ensures in
    record {
      pairs = filter f meant;
      are = record { exact = exactly f (IsMeant c.args.program.now fs) meant c.in_ok-bindings.ensures.exact; once = still_apart f meant c.in_ok-bindings.ensures.once };
      each = subst (λ (l : List Interface). AllZip (IsTypedName l) (filter f meant) names) same
          (subst (λ (ps : List Pair). AllZip (IsTypedName (map (λ f. f.now) c.as_slice-2.result.now)) (filter f ps) names) c.as_slice.ensures.value c.in_ok-names.ensures);
    }
