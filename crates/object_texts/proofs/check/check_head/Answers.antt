use Rattle.sql_tokens.proofs.Cuts.{parted}
use Rattle.object_texts.proofs.HeadPlaces.{Stands, stands-after}
use Rattle.object_texts.proofs.HeadRefusals.{created-refused, stands-named, stands-refused}
use Rattle.object_texts.proofs.Uncreated.{uncreated-refused}
use Rattle.object_texts.proofs.check.check_head.Goals as goal
use Rattle.object_texts.proofs.check.check_head.Goals.{After-name_place}

-- after the kind, past white space and comments
stands : (c : After-name_place) → Stands c.args.text.now c.past_gaps-rest.result.now
stands c = stands-after c.args.text.now c.in-Some.created.now c.in-Some-kind_in.after.now c.past_gaps-rest.result.now c.in-Some-kind_in.field-0-0 c.in-Some.ensures.after c.in-Some.ensures.left c.in-Some-kind_in.ensures.kind c.in-Some-kind_in.ensures.left c.past_gaps-rest.ensures.past c.past_gaps-rest.ensures.left

pub overflow_sub-result : goal.overflow_sub-result
overflow_sub-result c = (parted c.args.text.now c.past_gaps-rest.result.now (stands (goal.at.overflow_sub-result c).After-name_place).left).within

pub returns-in_default : goal.returns-in_default
returns-in_default c = rw c.agreement.ensures (uncreated-refused c.args.text.now c.in_default.ensures.after)

pub returns-in_default-kind_in : goal.returns-in_default-kind_in
returns-in_default-kind_in c = created-refused c.args.text.now c.in-Some.created.now c.in-Some.ensures.after c.in-Some.ensures.left c.in_default-kind_in.ensures.kind

pub returns-in-None : goal.returns-in-None
returns-in-None c = stands-named c.args.text.now c.past_gaps-rest.result.now (stands (goal.at.returns-in-None c).After-name_place) c.in-None.ensures.place

pub returns-in-Some-name_place : goal.returns-in-Some-name_place
returns-in-Some-name_place c = stands-refused c.args.text.now c.past_gaps-rest.result.now c.in-Some-name_place.place (stands (goal.at.returns-in-Some-name_place c).After-name_place) c.in-Some-name_place.ensures.place
