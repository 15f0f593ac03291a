use Rattle.std.proofs.Common.{◌∙◌, ap, refl, subst, sym}
use Rattle.hm_lsp_session.specs.Effects.{HasBodyEffect, TextsAre, documents_of, encoding_of}
use Rattle.hm_lsp_session.specs.Replies.{IsAsked, IsLeftOf, TakesBody}
use Rattle.hm_lsp_session.specs.Steps.{stage_of}
use Rattle.hm_lsp_server.proofs.OneReply.{IsSilent, body_asked, body_none, body_reply}
use Rattle.hm_lsp_session.specs.declared.session.Outcome.TheVariants.{Ask, Begun, Changed, Ended, Files, Nothing, Reply}
use Rattle.hm_lsp_server.specs.Steps.{IsSentFor}
use Rattle.hm_lsp_server.specs.declared.taken.Taken.TheVariants.{Ended as TakenEnded, Files as TakenFiles, Nothing as TakenNothing, Reply as TakenReply, Request as TakenRequest}
use Rattle.hm_lsp_server.proofs.Stepping.{stepped, stepped_still}
use Rattle.hm_lsp_sources.specs.Held.{held_in, named_in}
use Rattle.hm_lsp_server.proofs.Publishing.{same_following}
use Rattle.hm_lsp_server.proofs.Serving.{never_left, served_asked}
use Rattle.hm_lsp_server.proofs.server.Server.take.Goals as goal

pub returns-in-Reply-clause-reply : goal.returns-in-Reply-clause-reply
returns-in-Reply-clause-reply g c =
    let t = subst (TakesBody c.args.body.now) c.in-Reply.is c.in_ok-reply.ensures.takes in
    body_reply c.args.body.now c.in-Reply.reply t

pub returns-in-Reply-clause-served : goal.returns-in-Reply-clause-served
returns-in-Reply-clause-served g c message name id q u e n i ready is =
    absurd (never_left c.args.self.now c.args.body.now c.in_ok-reply.field-0 c.in_ok-reply.ensures.left (λ k m h. subst (IsAsked k m) c.in-Reply.is h) message name id q u e n i ready is)

pub returns-in_ok-reply_to-in-Ask-clause-reply : goal.returns-in_ok-reply_to-in-Ask-clause-reply
returns-in_ok-reply_to-in-Ask-clause-reply g c =
    let t = subst (TakesBody c.args.body.now) c.in-Ask.is c.in_ok-reply.ensures.takes in
    body_asked c.args.body.now c.in-Ask.question c.in-Ask.request c.in_ok-reply_to-in-Ask.field-0 t c.in_ok-reply_to-in-Ask.ensures.reply

pub returns-in_ok-reply_to-in-Ask-clause-served : goal.returns-in_ok-reply_to-in-Ask-clause-served
returns-in_ok-reply_to-in-Ask-clause-served g c =
    let left = subst (IsLeftOf c.args.body.now (stage_of c.args.self.now.session)) c.in-Ask.is c.in_ok-reply.ensures.left in
    let same = subst (λ o. TextsAre o (HasBodyEffect c.args.body.now (encoding_of c.args.self.now.session) (documents_of c.args.self.now.session) (documents_of c.take.new.self)) (documents_of c.args.self.now.session) (documents_of c.take.new.self)) c.in-Ask.is
    c.in_ok-reply.ensures.texts in
    let follows = same_following c.args.self.now c.reply_to.new.self (ap documents_of c.in_ok-reply_to-in-Ask.ensures.session ∙ same) (ap named_in c.in_ok-reply_to-in-Ask.ensures.sources) (ap held_in c.in_ok-reply_to-in-Ask.ensures.sources)
    c.requires.orderly.follows in
    served_asked c.args.self.now c.reply_to.new.self c.args.body.now c.in-Ask.question c.in-Ask.request c.in_ok-reply_to-in-Ask.field-0 left follows c.in_ok-reply_to-in-Ask.ensures.served

pub returns-in_ok-follow-in-Changed-clause-reply : goal.returns-in_ok-follow-in-Changed-clause-reply
returns-in_ok-follow-in-Changed-clause-reply g c = body_none c.args.body.now c.in_ok-reply.field-0 c.in_ok-reply.ensures.takes (subst IsSilent (sym c.in-Changed.is) tt)

pub returns-in_ok-follow-in-Changed-clause-served : goal.returns-in_ok-follow-in-Changed-clause-served
returns-in_ok-follow-in-Changed-clause-served g c message name id q u e n i ready is =
    absurd (never_left c.args.self.now c.args.body.now c.in_ok-reply.field-0 c.in_ok-reply.ensures.left (λ k m h. subst (IsAsked k m) c.in-Changed.is h) message name id q u e n i ready is)

pub returns-in-Nothing-clause-reply : goal.returns-in-Nothing-clause-reply
returns-in-Nothing-clause-reply g c = body_none c.args.body.now c.in_ok-reply.field-0 c.in_ok-reply.ensures.takes (subst IsSilent (sym c.in-Nothing.is) tt)

pub returns-in-Nothing-clause-served : goal.returns-in-Nothing-clause-served
returns-in-Nothing-clause-served g c message name id q u e n i ready is =
    absurd (never_left c.args.self.now c.args.body.now c.in_ok-reply.field-0 c.in_ok-reply.ensures.left (λ k m h. subst (IsAsked k m) c.in-Nothing.is h) message name id q u e n i ready is)

pub returns-in-Ended-clause-reply : goal.returns-in-Ended-clause-reply
returns-in-Ended-clause-reply g c = body_none c.args.body.now c.in_ok-reply.field-0 c.in_ok-reply.ensures.takes (subst IsSilent (sym c.in-Ended.is) tt)

pub returns-in-Ended-clause-served : goal.returns-in-Ended-clause-served
returns-in-Ended-clause-served g c message name id q u e n i ready is =
    absurd (never_left c.args.self.now c.args.body.now c.in_ok-reply.field-0 c.in_ok-reply.ensures.left (λ k m h. subst (IsAsked k m) c.in-Ended.is h) message name id q u e n i ready is)

pub returns-then-not-watches_files-clause-reply : goal.returns-then-not-watches_files-clause-reply
returns-then-not-watches_files-clause-reply g c = body_none c.args.body.now c.in_ok-reply.field-0 c.in_ok-reply.ensures.takes (subst IsSilent (sym c.in-Begun.is) tt)

pub returns-then-not-watches_files-clause-served : goal.returns-then-not-watches_files-clause-served
returns-then-not-watches_files-clause-served g c message name id q u e n i ready is =
    absurd (never_left c.args.self.now c.args.body.now c.in_ok-reply.field-0 c.in_ok-reply.ensures.left (λ k m h. subst (IsAsked k m) c.in-Begun.is h) message name id q u e n i ready is)

pub returns-in_ok-registration-in-Begun-clause-reply : goal.returns-in_ok-registration-in-Begun-clause-reply
returns-in_ok-registration-in-Begun-clause-reply g c = body_none c.args.body.now c.in_ok-reply.field-0 c.in_ok-reply.ensures.takes (subst IsSilent (sym c.in-Begun.is) tt)

pub returns-in_ok-registration-in-Begun-clause-served : goal.returns-in_ok-registration-in-Begun-clause-served
returns-in_ok-registration-in-Begun-clause-served g c message name id q u e n i ready is =
    absurd (never_left c.args.self.now c.args.body.now c.in_ok-reply.field-0 c.in_ok-reply.ensures.left (λ k m h. subst (IsAsked k m) c.in-Begun.is h) message name id q u e n i ready is)

pub returns-in-Files-clause-reply : goal.returns-in-Files-clause-reply
returns-in-Files-clause-reply g c = body_none c.args.body.now c.in_ok-reply.field-0 c.in_ok-reply.ensures.takes (subst IsSilent (sym c.in-Files.is) tt)

pub returns-in-Files-clause-served : goal.returns-in-Files-clause-served
returns-in-Files-clause-served g c message name id q u e n i ready is =
    absurd (never_left c.args.self.now c.args.body.now c.in_ok-reply.field-0 c.in_ok-reply.ensures.left (λ k m h. subst (IsAsked k m) c.in-Files.is h) message name id q u e n i ready is)

pub returns-in-Reply-clause-step : goal.returns-in-Reply-clause-step
returns-in-Reply-clause-step g c =
    let e = c.in_ok-reply.ensures in
    stepped c.args.body.now c.args.self.now.session c.take.new.self c.in_ok-reply.field-0 (Reply c.in-Reply.reply) (TakenReply c.in-Reply.reply)
    record { takes = e.takes; left = e.left; step = e.step; texts = e.texts; units = e.units; watches = e.watches; begun = e.begun; files = e.files; ended = e.ended; ends = e.ends; heard = e.heard } c.in-Reply.is refl

pub returns-in_ok-reply_to-in-Ask-clause-step : goal.returns-in_ok-reply_to-in-Ask-clause-step
returns-in_ok-reply_to-in-Ask-clause-step g c =
    let e = c.in_ok-reply.ensures in
    stepped_still c.args.body.now c.args.self.now.session c.take.new.self c.reply_to.new.self.session c.in_ok-reply.field-0 (Ask c.in-Ask.question c.in-Ask.request) (TakenReply c.in_ok-reply_to-in-Ask.field-0)
    record { takes = e.takes; left = e.left; step = e.step; texts = e.texts; units = e.units; watches = e.watches; begun = e.begun; files = e.files; ended = e.ended; ends = e.ends; heard = e.heard } c.in-Ask.is (c.in_ok-reply_to-in-Ask.field-0, refl) c.in_ok-reply_to-in-Ask.ensures.session

pub returns-in_ok-follow-in-Changed-clause-step : goal.returns-in_ok-follow-in-Changed-clause-step
returns-in_ok-follow-in-Changed-clause-step g c =
    let e = c.in_ok-reply.ensures in
    stepped_still c.args.body.now c.args.self.now.session c.take.new.self c.follow.new.self.session c.in_ok-reply.field-0 Changed TakenNothing
    record { takes = e.takes; left = e.left; step = e.step; texts = e.texts; units = e.units; watches = e.watches; begun = e.begun; files = e.files; ended = e.ended; ends = e.ends; heard = e.heard } c.in-Changed.is refl c.in_ok-follow-in-Changed.ensures.session

pub returns-in-Nothing-clause-step : goal.returns-in-Nothing-clause-step
returns-in-Nothing-clause-step g c =
    let e = c.in_ok-reply.ensures in
    stepped c.args.body.now c.args.self.now.session c.take.new.self c.in_ok-reply.field-0 Nothing TakenNothing
    record { takes = e.takes; left = e.left; step = e.step; texts = e.texts; units = e.units; watches = e.watches; begun = e.begun; files = e.files; ended = e.ended; ends = e.ends; heard = e.heard } c.in-Nothing.is refl

pub returns-in-Ended-clause-step : goal.returns-in-Ended-clause-step
returns-in-Ended-clause-step g c =
    let e = c.in_ok-reply.ensures in
    stepped c.args.body.now c.args.self.now.session c.take.new.self c.in_ok-reply.field-0 (Ended c.in-Ended.status) (TakenEnded c.in-Ended.status)
    record { takes = e.takes; left = e.left; step = e.step; texts = e.texts; units = e.units; watches = e.watches; begun = e.begun; files = e.files; ended = e.ended; ends = e.ends; heard = e.heard } c.in-Ended.is refl

pub returns-in-Files-clause-step : goal.returns-in-Files-clause-step
returns-in-Files-clause-step g c =
    let e = c.in_ok-reply.ensures in
    stepped c.args.body.now c.args.self.now.session c.take.new.self c.in_ok-reply.field-0 (Files c.in-Files.uris) (TakenFiles c.in-Files.uris)
    record { takes = e.takes; left = e.left; step = e.step; texts = e.texts; units = e.units; watches = e.watches; begun = e.begun; files = e.files; ended = e.ended; ends = e.ends; heard = e.heard } c.in-Files.is refl

pub returns-then-not-watches_files-clause-step : goal.returns-then-not-watches_files-clause-step
returns-then-not-watches_files-clause-step g c =
    let e = c.in_ok-reply.ensures in
    stepped c.args.body.now c.args.self.now.session c.take.new.self c.in_ok-reply.field-0 Begun TakenNothing
    record { takes = e.takes; left = e.left; step = e.step; texts = e.texts; units = e.units; watches = e.watches; begun = e.begun; files = e.files; ended = e.ended; ends = e.ends; heard = e.heard } c.in-Begun.is (subst (λ w. IsSentFor w TakenNothing) c.if-not-watches_files.ensures refl)

pub returns-in_ok-registration-in-Begun-clause-step : goal.returns-in_ok-registration-in-Begun-clause-step
returns-in_ok-registration-in-Begun-clause-step g c =
    let e = c.in_ok-reply.ensures in
    stepped c.args.body.now c.args.self.now.session c.take.new.self c.in_ok-reply.field-0 Begun (TakenRequest c.in_ok-registration-in-Begun.field-0)
    record { takes = e.takes; left = e.left; step = e.step; texts = e.texts; units = e.units; watches = e.watches; begun = e.begun; files = e.files; ended = e.ended; ends = e.ends; heard = e.heard } c.in-Begun.is (subst (λ w. IsSentFor w (TakenRequest c.in_ok-registration-in-Begun.field-0)) c.if-not-watches_files.ensures (c.in_ok-registration-in-Begun.field-0, refl))
