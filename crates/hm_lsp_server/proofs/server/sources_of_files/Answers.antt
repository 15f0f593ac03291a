use Rattle.std.proofs.Common.{rules, ◌≡◌, ◌∙◌, ◌++◌, [], ◌∷◌, ap, codes, refl, subst, sym}
use Rattle.hm_lsp_sources.specs.Following.{names_in}
use Rattle.hm_lsp_sources.specs.Held.{named_in}
use Rattle.hm_lsp_server.specs.Servers.{HasFiles}
use Rattle.hm_lsp_server.proofs.Begun.{begin, empty_of, ended, one_more}
use Rattle.hm_lsp_server.proofs.server.sources_of_files.Goals as goal

pub files-init : goal.files-init
files-init g c = begin c.into_iter-file-iterator.result.rest.items c.new-sources.result c.new-sources.ensures.named c.new-sources.ensures.held

pub files-preserved : goal.files-preserved
files-preserved g c =
    let step : c.files.file-iterator.rest.items ≡ c.in-Some.file ∷ c.next.new.self.rest.items = search (rules) in
    one_more c.into_iter-file-iterator.result.rest.items c.files.file-iterator.rest.items c.next.new.self.rest.items c.in-Some.file c.files.sources c.add.new.self step
    (c.in_ok-add.ensures.names ∙ ap (λ n. names_in (named_in c.files.sources) ++ n ∷ []) (c.in_ok-uri.ensures ∙ ap (λ p. codes "file://" ++ p) c.as_str.ensures.value)) c.in_ok-add.ensures.files (c.in_ok-add.ensures.following [] c.files.invariant.following refl) c.files.invariant

pub returns-clause-files : goal.returns-clause-files
returns-clause-files g c =
    let none : c.files.file-iterator.rest.items ≡ [] = empty_of c.files.file-iterator.rest.items (sym c.files.file-iterator.rest.ok.0 ∙ c.in-None.ensures.steps.0) in
    let whole : c.into_iter-file-iterator.result.rest.items ≡ c.args.files.items = search (rules) in
    subst (λ l. HasFiles l (named_in c.files.sources)) whole (ended c.into_iter-file-iterator.result.rest.items c.files.file-iterator.rest.items c.files.sources none c.files.invariant)

pub returns-clause-following : goal.returns-clause-following
returns-clause-following g c = c.files.invariant.following
