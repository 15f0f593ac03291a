use Rattle.std.proofs.Common.{rules, ◌≡◌, ◌+◌, ◌<◌, ◌≤◌, ◌++◌, List, ℕ, arith, length, subst, sym}
use Rattle.std.proofs.lemmas.List.{length-map}
use Rattle.hm_messages.specs.Pages.{files_in, texts_in}
use Rattle.hm_build_output.specs.FurtherStated.{AreFaultsStated}
use Rattle.hm_build_output.proofs.Further.{told_more}
use Rattle.hm_build_output.proofs.refused.further_messages.Goals as goal

pub loop-source-preserved : goal.loop-source-preserved
loop-source-preserved c =
    let format = c.args.pages.now.format in
    let files = files_in c.args.pages.now.items.items in
    let texts : List (List ℕ) = texts_in c.args.pages.now.items.items in
    let from = c.args.from in
    let source = c.loop-source.source in
    let all = c.loop-source.all in
    let messages = c.in_ok-messages.messages in
    let low : from ≤ source = search rules in
    let inside : source < length c.args.sources.now = search rules in
    let within : source < length texts = subst (λ (l : List (List ℕ)). source < length l) (sym c.requires.texts) (omega (arith, inside, length-map c.args.sources.now (λ s. s.items))) in
    let told : AreFaultsStated format files texts source messages.errors messages.text.items = c.in_ok-messages.ensures in
    let text : c.add.new.all.text.items ≡ all.text.items ++ messages.text.items = search rules in
    let errors : c.add.new.all.errors ≡ all.errors + messages.errors = search rules in
    rw (text, errors) (told_more format files texts from source all.errors all.text.items low within c.loop-source.invariant messages.errors messages.text.items told)
