use Rattle.std.proofs.Common.{rules, ◌≡◌, ◌++◌, append_assoc, codes, string_bytes, subst, sym}
use Rattle.hm_names.specs.declared.namespace.Namespace.TheVariants.{Types, Values}
use Rattle.hm_messages_exporters.specs.Exported.{IsItem, a_type, a_variable}
use Rattle.hm_messages_exporters.proofs.exports.import_item.Goals as goal

pub returns-in_ok-format-in-Types : goal.returns-in_ok-format-in-Types
returns-in_ok-format-in-Types c =
    let text : string_bytes c.in_ok-format-in-Types.field-0 ≡ codes " (" ++ c.args.name.now ++ codes ")" = simp append_assoc (search rules) in
    rw c.in-Types.is (subst (IsItem c.args.interface.now c.args.name.now Types) (sym text) a_type)

pub returns-in_ok-format-in-Values : goal.returns-in_ok-format-in-Values
returns-in_ok-format-in-Values c =
    let text : string_bytes c.in_ok-format-in-Values.field-0 ≡ codes " (" ++ c.args.name.now ++ codes ")" = simp append_assoc (search rules) in
    rw c.in-Values.is (subst (IsItem c.args.interface.now c.args.name.now Values) (sym text) a_variable)
