-- `inputs::judge_places` meets its contract: by whether the start and then the apex are in the box. The start is, so q = p + s fits.
use mathlib.Core.Path.{refl, sym, ◌∙◌}
use mir.Syntax.{w32}
use Rattle.integers.specs.Machine.{back}
use borrow.Author.Rules.{rules}
use Rattle.inputs.proofs.Judged.{sum_fits, rank-fits, scene-ready, scene-is, placed-inside, placing-judged}
use Rattle.inputs.proofs.judge_places.Goals as goal

pub apex_of-q-requires : goal.apex_of-q-requires
apex_of-q-requires c =
    sum_fits c.args.begin c.args.frame c.args.body.permitted c.start_of-p.ensures (sym c.is_inside.ensures ∙ c.in_ok-ensure.ensures) c.signs_of-signs.ensures

pub rank_of-requires : goal.rank_of-requires
rank_of-requires c = rank-fits c.args.body.permitted (sym c.is_inside-2.ensures ∙ c.in_ok-ensure-2.ensures)

pub invariant_of-result : goal.invariant_of-result
invariant_of-result c =
    record {
      ready = scene-ready c.args.begin c.args.frame c.args.body.permitted c.args.body.gridded (sym c.is_inside-2.ensures ∙ c.in_ok-ensure-2.ensures)
          (back w32 _ c.rank_of.type_inv ∙ c.rank_of.ensures) c.signs_of-signs.ensures c.span_of.ensures c.requires;
    }

pub returns-in_err-ensure : goal.returns-in_err-ensure
returns-in_err-ensure c = search (rules, placing-judged)

pub returns-in_err-ensure-2 : goal.returns-in_err-ensure-2
returns-in_err-ensure-2 c = search (rules, placing-judged)

pub returns : goal.returns
returns c =
    placed-inside c.start_of-p.ensures c.is_inside.ensures c.in_ok-ensure.ensures c.signs_of-signs.ensures c.apex_of-q.ensures c.is_inside-2.ensures c.in_ok-ensure-2.ensures
    (scene-is c.args.begin c.args.frame c.args.reach c.args.body.gridded c.apex_of-q.ensures (back w32 _ c.rank_of.type_inv ∙ c.rank_of.ensures) c.signs_of-signs.ensures c.span_of.ensures) refl
