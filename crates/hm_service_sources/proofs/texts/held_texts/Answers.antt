use Rattle.std.proofs.Common.{◌≡◌, ◌∙◌, ap, map}
use Rattle.hm_service_sources.specs.HeldSets.{texts_of}
use Rattle.hm_service_sources.proofs.Numbers.{texts_within, unread_are}
use Rattle.hm_service_sources.proofs.texts.held_texts.Goals as goal

pub texts_at-requires : goal.texts_at-requires
texts_at-requires c =
    let reads = c.as_slice.result.now in
    let are : reads ≡ map (λ h. h.is_read) c.args.held.now = c.as_slice.ensures.value ∙ c.in_ok-reads.ensures in
    let same : map (λ s. s.items) c.as_slice-2.result.now ≡ texts_of c.args.held.now = ap (map (λ s. s.items)) c.as_slice-2.ensures.value ∙ c.in_ok-current.ensures in
    rw c.as_slice-3.ensures.value (texts_within c.args.held.now reads c.in_ok-unread.unread.items are c.in_ok-unread.ensures.members c.as_slice-2.result.now same)

pub returns-clause-unread : goal.returns-clause-unread
returns-clause-unread c =
    let reads = c.as_slice.result.now in
    let are : reads ≡ map (λ h. h.is_read) c.args.held.now = c.as_slice.ensures.value ∙ c.in_ok-reads.ensures in
    unread_are c.args.held.now reads c.in_ok-unread.unread.items are c.in_ok-unread.ensures.members c.in_ok-unread.ensures.ascending
