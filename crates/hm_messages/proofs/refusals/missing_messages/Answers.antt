use Rattle.std.proofs.Common.{rules, ◌≡◌, ◌∷◌, ◌++◌, ◌∙◌, ◌<◌, ℕ, List, All, ap, arith, length, map, subst, sym}
use Rattle.std.proofs.lemmas.List.{length-map}
use Rattle.std.proofs.lemmas.List.Elements.{All-head, All-tail}
use Rattle.hm_messages.specs.Missing.{import_of, missing_imports}
use Rattle.hm_messages.specs.Pages.{files_in, texts_in}
use Rattle.hm_messages.specs.Refused.{IsMissingStated}
use Rattle.hm_messages.specs.declared.missing.MissingImport.{MissingImport}
use Rattle.hm_messages.proofs.InOrder.{each_mapped}
use Rattle.hm_messages.proofs.Sourced.{first_named, found_inside}
use Rattle.hm_messages.proofs.refusals.missing_messages.Goals as goal

-- the import is in one of these sources
abbrev IsInside : List (List ℕ) → MissingImport → Type 0
IsInside texts i = i.source < length texts

pub missing_message-requires-clause-inside : goal.missing_message-requires-clause-inside
missing_message-requires-clause-inside c =
    let texts = texts_in c.args.pages.now.items.items in
    let imports : List MissingImport = c.in_ok-imports.imports.items in
    let parts : imports ≡ c.in-Some.first.now ∷ c.in-Some.more.now = search rules in
    All-head (IsInside texts) c.in-Some.first.now c.in-Some.more.now (subst (All (IsInside texts)) parts (found_inside texts c.args.located.now imports c.requires c.in_ok-imports.ensures))

pub further_messages-requires-clause-inside : goal.further_messages-requires-clause-inside
further_messages-requires-clause-inside c =
    let texts = texts_in c.args.pages.now.items.items in
    let imports : List MissingImport = c.in_ok-imports.imports.items in
    let parts : imports ≡ c.in-Some.first.now ∷ c.in-Some.more.now = search rules in
    All-tail (IsInside texts) c.in-Some.first.now c.in-Some.more.now (subst (All (IsInside texts)) parts (found_inside texts c.args.located.now imports c.requires c.in_ok-imports.ensures))

pub returns-clause-ok : goal.returns-clause-ok
returns-clause-ok c =
    let pages = c.args.pages.now in
    let format = pages.format in
    let files = files_in pages.items.items in
    let texts = texts_in pages.items.items in
    let name = c.args.name.now in
    let imports : List MissingImport = c.in_ok-imports.imports.items in
    let first : MissingImport = c.in-Some.first.now in
    let more : List MissingImport = c.in-Some.more.now in
    let parts : imports ≡ first ∷ more = search rules in
    let called : first.name.now ≡ name = search rules in
    let many : c.len-errors.result ≡ length imports = search rules in
    let all_of : missing_imports c.args.located.now ≡ import_of first ∷ map import_of more = sym c.in_ok-imports.ensures ∙ ap (map import_of) parts in
    let pushed : c.extend_from_slice.new.self.items ≡ c.in_ok-text.text.items ++ c.in_ok-further.further.items = search rules in (
      first.source,
      first.place,
      c.in_ok-text.text.items,
      c.in_ok-further.further.items,
      subst (λ (n : List ℕ). IsMissingStated format files texts (record { number = first.source; place = first.place; name = n }) c.in_ok-text.text.items) called c.in_ok-text.ensures,
      first_named texts c.args.located.now (import_of first) (map import_of more) c.requires all_of,
      record {
        located = c.args.located.now;
        of_sources = c.requires;
        more = map import_of more;
        all = all_of ∙ (ap (λ (n : List ℕ). record { number = first.source; place = first.place; name = n } ∷ map import_of more) called);
        stated = each_mapped import_of (IsMissingStated format files texts) more c.in_ok-further.further.items c.in_ok-further.ensures;
        count = many ∙ (ap (λ (l : List MissingImport). length l) parts ∙ omega (arith, length-map more import_of));
      },
      pushed,
    )
