use Rattle.std.proofs.Common.{rules, ◌<◌, length, refl}
use Rattle.hm_lsp_sources.specs.Held.{held_in, named_in}
use Rattle.hm_lsp_sources.proofs.Followed.{followed_at, now, uri_by}
use Rattle.hm_lsp_sources.proofs.following.Sources.follow_at.Goals as goal

pub returns : goal.returns
returns g c =
    let s = c.index_mut-source.result.now in
    let e = c.index_mut-held.result.now in
    let low : c.args.number < length (named_in c.args.self.now) = search (rules) in
    let below : c.args.number < length (held_in c.args.self.now) = search (rules) in
    followed_at (now c.args.document) c.args.number c.in_ok-follow_one.field-0 c.args.self.now _ c.follow_one.new.source c.follow_one.new.held refl refl low below s e c.index_mut-source.ensures.value c.index_mut-held.ensures.value
    c.in_ok-follow_one.ensures.name c.in_ok-follow_one.ensures.file (uri_by c.args.document s c.follow_one.new.source c.in_ok-follow_one.ensures.uri c.in_ok-follow_one.ensures.own) c.in_ok-follow_one.ensures.text
    c.in_ok-follow_one.ensures.same
