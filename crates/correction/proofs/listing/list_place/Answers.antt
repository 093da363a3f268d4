use Rattle.std.proofs.Common.{◌≡◌, sym, ◌∙◌}
use Rattle.std.proofs.lemmas.Option.{none-some, same_Some}
use Rattle.correction.proofs.Onward.{pushed_added}
use Rattle.correction.proofs.listing.list_place.Goals as goal

pub returns-in_err-change : goal.returns-in_err-change
returns-in_err-change g c y v room = absurd (none-some y (sym c.in_err-change.was ∙ c.change_at.ensures y v))

pub returns : goal.returns
returns g c y v =
    let is : y ≡ c.in_ok-change.change = same_Some _ _ (sym (c.change_at.ensures y v) ∙ c.in_ok-change.was) in
    rw is (pushed_added _ _ _ _ c.push.ensures)
