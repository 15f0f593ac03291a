use Rattle.std.proofs.Common.{length, map, sym, ap, ◌∙◌, string_bytes}
use Rattle.std.specs.Arc.{arc_value}
use Rattle.std.proofs.lemmas.List.{length-map}
use Rattle.hm_build_reports.specs.Settling.{statuses_of}
use Rattle.hm_build_reports.proofs.Reporting.{lawful_of}
use Rattle.hm_build_listing.proofs.Lines.{listing_of}
use Rattle.hm_build_listing.proofs.listings.listing.Goals as goal

pub settled_listing-requires-clause-lawful : goal.settled_listing-requires-clause-lawful
settled_listing-requires-clause-lawful c = lawful_of c.args.store.now c.modules-modules.result.now c.plan-plan.result.now c.modules-modules.ensures c.plan-plan.ensures c.legal.ensures.lawful

pub settled_listing-requires-clause-len : goal.settled_listing-requires-clause-len
settled_listing-requires-clause-len c = ap length c.as_slice.ensures.value ∙ (c.in_ok-settled.ensures.len ∙ (sym (ap length c.modules-modules.ensures) ∙ length-map c.modules-modules.result.now arc_value))

pub returns : goal.returns
returns c =
    let origins = c.in_ok-origins.origins.items in (
      origins,
      c.in_ok-origins.ensures,
      listing_of (map string_bytes c.args.names.now) origins c.as_slice-2.result.now c.args.store.now c.modules-modules.result.now c.plan-plan.result.now (statuses_of c.as_slice.result.now)
          (string_bytes c.in_ok-settled_listing.field-0) c.as_slice-2.ensures.value c.modules-modules.ensures c.plan-plan.ensures (ap statuses_of c.as_slice.ensures.value ∙ c.in_ok-settled.ensures.settled) c.in_ok-settled_listing.ensures,
    )
