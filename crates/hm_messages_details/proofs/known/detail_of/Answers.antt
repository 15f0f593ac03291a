use Rattle.std.proofs.Common.{List, subst, sym}
use Rattle.hm_types.specs.Interfaces.{Exports as Interface}
use Rattle.hm_messages_details.specs.Details.{IsKnown, known_of}
use Rattle.hm_messages_details.proofs.known.detail_of.Goals as goal

pub returns-in_ok-second_detail-in-Duplicate : goal.returns-in_ok-second_detail-in-Duplicate
returns-in_ok-second_detail-in-Duplicate c = λ fs same scope known. c.in_ok-second_detail-in-Duplicate.ensures fs

pub returns-in_ok-second_detail-in-NonLinear : goal.returns-in_ok-second_detail-in-NonLinear
returns-in_ok-second_detail-in-NonLinear c = λ fs same scope known. c.in_ok-second_detail-in-NonLinear.ensures fs

pub returns-in_ok-length_detail-in-ClauseLength : goal.returns-in_ok-length_detail-in-ClauseLength
returns-in_ok-length_detail-in-ClauseLength c = λ fs same scope known. c.in_ok-length_detail-in-ClauseLength.ensures fs

pub returns-in_ok-import_detail-in-NotExported : goal.returns-in_ok-import_detail-in-NotExported
returns-in_ok-import_detail-in-NotExported c = λ fs same scope known.
    subst (λ (l : List Interface). IsKnown c.args.site.now.program.now l c.args.fault.now (known_of c.in_ok-import_detail-in-NotExported.field-0)) (sym same) c.in_ok-import_detail-in-NotExported.ensures

pub returns-in_ok-signature_detail-in-NoBinding : goal.returns-in_ok-signature_detail-in-NoBinding
returns-in_ok-signature_detail-in-NoBinding c = λ fs same scope known. c.in_ok-signature_detail-in-NoBinding.ensures fs
