use Rattle.std.proofs.Common.{rules, ◌≡◌, ◌∙◌, ◌++◌, Some, string_bytes, sym, ap}
use Rattle.std.proofs.lemmas.Bool.Decides.{Decides-eqb}
use Rattle.std.proofs.lemmas.Slice.Eq.{strip_prefix_is, strip_suffix_is}
use Rattle.hm_messages_types.proofs.texts.between.Goals as goal

pub returns-in_ok-from_str-in-Ok : goal.returns-in_ok-from_str-in-Ok
returns-in_ok-from_str-in-Ok c =
    let text = c.args.text.now in
    let front = c.args.front.now in
    let back = c.args.back.now in
    let rest = c.in-Some.rest in
    let inner = c.in-Some-strip_suffix.inner in
    let begins : text ≡ front ++ rest.now = strip_prefix_is Decides-eqb text front (Some rest) c.in-Some.ensures.cases in
    let ends : rest.now ≡ inner.now ++ back = strip_suffix_is Decides-eqb rest.now back (Some inner) c.in-Some-strip_suffix.ensures.cases in
    let same : string_bytes c.in_ok-from_str-in-Ok.field-0 ≡ inner.now = search rules in
    begins ∙ ap (λ l. front ++ l) (ends ∙ ap (λ l. l ++ back) (sym same))
