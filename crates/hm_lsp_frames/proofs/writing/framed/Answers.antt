use Rattle.std.proofs.Common.{◌∙◌, ◌++◌, ap, append_assoc, codes, length}
use Rattle.std.specs.Fmt.{decimal}
use Rattle.hm_lsp_frames.specs.Frames.{empty_line}
use Rattle.hm_lsp_frames.proofs.writing.framed.Goals as goal

pub returns : goal.returns
returns c =
    c.in_ok-extend_from_slice.ensures.items ∙ ap (λ l. l ++ c.args.body.now) (ap (λ v. v.items) c.into_bytes-frame.ensures.value ∙ c.in_ok-format.ensures.ok)
    ∙ ap (λ l. codes "Content-Length: " ++ l) (append_assoc (decimal (length c.args.body.now)) empty_line c.args.body.now)
