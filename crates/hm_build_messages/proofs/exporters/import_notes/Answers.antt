use Rattle.std.proofs.Common.{rules, ◌≡◌, ◌⊎◌, [], subst}
use Rattle.hm_syntax.specs.declared.ast.Module.{Module}
use Rattle.hm_build_messages.specs.Exporters.{IsLeftOutNote, of_imports}
use Rattle.hm_build_messages.specs.Searching.{file_of, format_of, interfaces_of, source_of}
use Rattle.hm_build_messages.proofs.exporters.import_notes.Goals as goal

pub returns : goal.returns
returns c =
    let here = c.args.here.now in
    let one = c.in_ok-text.text.items in
    of_imports one c.in_ok-other.other.items
    (subst (λ (m : Module). (one ≡ []) ⊎ IsLeftOutNote (format_of here) (file_of here) (source_of here) m (interfaces_of here) c.args.missing.space c.args.missing.name.now one) c.requires.program c.in_ok-text.ensures)
    c.in_ok-other.ensures (search rules)
