use Rattle.std.proofs.Common.{rules, ◌≡◌, ◌∙◌, ◌++◌, ap, string_bytes, subst}
use Rattle.hm_syntax.specs.Names.{Identifier}
use Rattle.hm_uses_declarations.specs.Senses.{sense_of}
use Rattle.hm_build_place_texts.specs.Facts.{binding_of, declared_of, here_of}
use Rattle.hm_build_places.specs.Answers.{IsBound, IsRangeIn}
use Rattle.hm_build_places.specs.Known.{origin_of, text_of}
use Rattle.hm_build_places.specs.Typed.{IsDeclaredType}
use Rattle.hm_build_places.specs.TypesAt.{IsTypeHere, place_of, qualifier_text}
use Rattle.hm_build_places.specs.Views.{known_of}
use Rattle.hm_build_places.proofs.uses.name_of.Goals as goal

pub returns : goal.returns
returns c =
    let k = known_of c.args.view.now in
    let i = c.args.number in
    let u = c.args.one.now in
    let source = text_of k (origin_of k i) in
    let range = c.in_ok-range.range in
    let bound = binding_of c.in_ok-bound.bound in
    let declared = declared_of c.in_ok-declared.declared in
    let here = here_of c.in_ok-here.here in
    let written = c.name-2.result.now in
    let ranged : IsRangeIn source c.place_of.result range = search rules in
    let text : string_bytes c.in_ok-text.text ≡ qualifier_text written.qualifier ++ written.text = search rules in
    let told : IsBound k i c.kind.result (sense_of c.meaning.result.now) bound = search rules in
    let type_told : IsDeclaredType k c.kind-2.result (sense_of c.meaning-2.result.now) declared = search rules in
    let here_told : IsTypeHere k i u.mention (sense_of c.meaning-3.result.now) here = search rules in
    record {
      kind_is = search rules;
      text_is = text ∙ ap (λ (n : Identifier). qualifier_text n.qualifier ++ n.text) c.name-2.ensures;
      range_is = subst (λ p. IsRangeIn source p range) (c.place_of.ensures ∙ ap place_of c.name.ensures) ranged;
      is_bound = subst (λ s. IsBound k i u.mention.kind s bound) c.meaning.ensures (subst (λ n. IsBound k i n (sense_of c.meaning.result.now) bound) c.kind.ensures told);
      is_typed = subst (λ s. IsDeclaredType k u.mention.kind s declared) c.meaning-2.ensures (subst (λ n. IsDeclaredType k n (sense_of c.meaning-2.result.now) declared) c.kind-2.ensures type_told);
      is_here = subst (λ s. IsTypeHere k i u.mention s here) c.meaning-3.ensures here_told;
    }
