use Rattle.std.proofs.Common.{◌∙◌, ap, sym}
use Rattle.hm_uses_symbols.specs.Symbols.{namespace_of}
use Rattle.hm_uses_symbols.proofs.FirstPlaces.{noted_constructor, noted_module, noted_type, noted_variable}
use Rattle.hm_uses_symbols.proofs.once.note.Goals as goal

pub returns-in_ok-insert-in-Module-clause-seen : goal.returns-in_ok-insert-in-Module-clause-seen
returns-in_ok-insert-in-Module-clause-seen c =
    noted_module c.args.seen.now c.insert.new.self c.args.symbol.now c.as_str-text.result.now (sym (c.as_str-text.ensures ∙ ap (λ n. n.text) c.name.ensures)) (sym c.kind.ensures ∙ c.in-Module.is) c.in_ok-insert-in-Module.ensures.texts

pub returns-in_ok-insert-in-DataType-clause-seen : goal.returns-in_ok-insert-in-DataType-clause-seen
returns-in_ok-insert-in-DataType-clause-seen c =
    noted_type c.args.seen.now c.insert-in-DataType.new.self c.args.symbol.now c.as_str-text.result.now (sym (c.as_str-text.ensures ∙ ap (λ n. n.text) c.name.ensures)) (ap namespace_of (sym c.kind.ensures ∙ c.in-DataType.is)) c.in_ok-insert-in-DataType.ensures.texts

pub returns-in_ok-insert-in-Synonym-clause-seen : goal.returns-in_ok-insert-in-Synonym-clause-seen
returns-in_ok-insert-in-Synonym-clause-seen c =
    noted_type c.args.seen.now c.insert-in-Synonym.new.self c.args.symbol.now c.as_str-text.result.now (sym (c.as_str-text.ensures ∙ ap (λ n. n.text) c.name.ensures)) (ap namespace_of (sym c.kind.ensures ∙ c.in-Synonym.is)) c.in_ok-insert-in-Synonym.ensures.texts

pub returns-in_ok-insert-in-Constructor-clause-seen : goal.returns-in_ok-insert-in-Constructor-clause-seen
returns-in_ok-insert-in-Constructor-clause-seen c =
    noted_constructor c.args.seen.now c.insert-in-Constructor.new.self c.args.symbol.now c.as_str-text.result.now (sym (c.as_str-text.ensures ∙ ap (λ n. n.text) c.name.ensures)) (sym c.kind.ensures ∙ c.in-Constructor.is) c.in_ok-insert-in-Constructor.ensures.texts

pub returns-in_ok-insert-in-Variable-clause-seen : goal.returns-in_ok-insert-in-Variable-clause-seen
returns-in_ok-insert-in-Variable-clause-seen c =
    noted_variable c.args.seen.now c.insert-in-Variable.new.self c.args.symbol.now c.as_str-text.result.now (sym (c.as_str-text.ensures ∙ ap (λ n. n.text) c.name.ensures)) (sym c.kind.ensures ∙ c.in-Variable.is) c.in_ok-insert-in-Variable.ensures.texts
