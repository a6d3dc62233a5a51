use Rattle.commands.proofs.Early.{by_last, form_ends, with_form, without_form, without_text}
use Rattle.commands.proofs.Words.{OfSite, one_file, site_file}
use Rattle.commands.specs.Reading.{site_form}
use Rattle.commands.proofs.request.request_site.Goals as goal

pub returns-in_err-site-clause-reads : goal.returns-in_err-site-clause-reads
unfolding site_form
returns-in_err-site-clause-reads g c =
    without_form (one_file c.args.words.now) _ _ _ c.in_err-site.ensures c.from_residual.ensures.1

pub returns-in_err-site-2-clause-reads : goal.returns-in_err-site-2-clause-reads
unfolding site_form
returns-in_err-site-2-clause-reads g c =
    with_form (one_file c.args.words.now) _ _ _ _ _ c.in_ok-site.ensures
    (without_text site_file _ _ _ _ _ _ c.from_residual-in_err-site-2.ensures.1 c.in_err-site-2.ensures.stop)

pub returns-clause-reads : goal.returns-clause-reads
unfolding site_form
returns-clause-reads g c =
    form_ends (one_file c.args.words.now) _ _ _ _ _ c.in_ok-site.ensures (by_last _ _ OfSite _ _ _ c.in_ok-site-2.ensures.site)
