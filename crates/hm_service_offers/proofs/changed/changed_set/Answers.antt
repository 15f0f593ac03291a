use Rattle.std.proofs.Common.{List, [], ◌∙◌, ◌+◌, ◌∷◌, ◌++◌, ap, append_assoc, length, refl, subst}
use Rattle.std.specs.List.{AllZip}
use Rattle.std.proofs.lemmas.List.{take_rest}
use Rattle.std.proofs.lemmas.Option.{slice_get_read}
use Rattle.hm_service_offers.specs.Changed.{IsSameSource}
use Rattle.hm_service_sources.specs.declared.held.HeldSource.{HeldSource}
use Rattle.hm_service_offers.proofs.changed.changed_set.Goals as goal

pub returns : goal.returns
returns g c =
    let held = c.args.held.now in
    let n = c.args.number in
    let first = c.in_ok-add_copies.ensures in
    let new = c.in_ok-source.source in
    let more = c.in_ok-add_copies-2.ensures in
    let begun = first.whole ∙ ap (λ (l : List HeldSource). l ++ first.copies) c.new-later.ensures.items in
    record {
      before = first.copies;
      old = c.index-held-number.result;
      new = new;
      after = more.copies;
      is = slice_get_read held (length held) n c.index-held-number.result refl c.requires c.index-held-number.is;
      whole = more.whole ∙ (ap (λ (l : List HeldSource). l ++ more.copies) (c.in_ok-add.ensures ∙ ap (λ (l : List HeldSource). l ++ new ∷ []) begun) ∙ append_assoc first.copies (new ∷ []) more.copies);
      first = first.same;
      given = c.in_ok-source.ensures;
      rest = subst (λ (l : List HeldSource). AllZip IsSameSource l more.copies) (take_rest held (n + 1)) more.same;
    }
