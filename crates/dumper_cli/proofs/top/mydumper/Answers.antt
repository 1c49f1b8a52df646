use Rattle.std.proofs.Common.{◌≡◌}
use Rattle.std.proofs.lemmas.Result.{on_ok_weaker}
use Rattle.dumper_cli.specs.AskedBy.{asked_by}
use Rattle.dumper_cli.proofs.Statuses.{not_two, zero_ended, other_failed, other_said, causes, refuses_full, exact}
use Rattle.dumper_cli.proofs.top.mydumper.Goals as goal

pub returns-clause-words : goal.returns-clause-words
returns-clause-words g c = (
  λ is. absurd (not_two c.dump-ended.result (rw c.exit_status.ensures at is)),
  λ none. (let found = c.in-Some.ensures in absurd (cc)),
)

pub returns-clause-untouched : goal.returns-clause-untouched
returns-clause-untouched g c = λ is. absurd (not_two c.dump-ended.result (rw c.exit_status.ensures at is))

pub returns-clause-dumped : goal.returns-clause-dumped
returns-clause-dumped g c = λ asked is zero.
    let same : asked ≡ asked_by c.in-Some.words = (let found = c.in-Some.ensures in cc) in
    rw same (zero_ended c.dump-ended.result _ c.dump-ended.ensures.ok (rw c.exit_status.ensures at zero))

pub returns-clause-aimed : goal.returns-clause-aimed
returns-clause-aimed g c = λ asked is zero.
    let same : asked ≡ asked_by c.in-Some.words = (let found = c.in-Some.ensures in cc) in
    rw same (zero_ended c.dump-ended.result _ c.dump-ended.ensures.aims (rw c.exit_status.ensures at zero))

pub returns-clause-causes : goal.returns-clause-causes
returns-clause-causes g c = λ asked is.
    let same : asked ≡ asked_by c.in-Some.words = (let found = c.in-Some.ensures in cc) in
    rw (same, c.exit_status.ensures) (causes (asked_by c.in-Some.words) _ _ _ _ _ _ c.dump-ended.result c.dump-ended.ensures.err)

pub returns-clause-exact : goal.returns-clause-exact
returns-clause-exact g c = λ asked is.
    let same : asked ≡ asked_by c.in-Some.words = (let found = c.in-Some.ensures in cc) in
    rw (same, c.exit_status.ensures) (exact (asked_by c.in-Some.words) _ _ _ _ _ _ _ _ c.dump-ended.result c.dump-ended.ensures.ok c.dump-ended.ensures.err)

pub returns-clause-full : goal.returns-clause-full
returns-clause-full g c = λ asked is.
    rw c.exit_status.ensures (refuses_full (asked_by c.in-Some.words) (g.S.Site.tells c.args.site.now) (g.S.Site.told c.args.site.now) _ _ _ _ c.dump-ended.result (on_ok_weaker c.dump-ended.result (λ dumped. dumped.was_empty) c.dump-ended.ensures.ok) c.dump-ended.ensures.empty c.dump-ended.ensures.err)

pub returns-clause-said : goal.returns-clause-said
returns-clause-said g c = λ asked is other t.
    let same : asked ≡ asked_by c.in-Some.words = (let found = c.in-Some.ensures in cc) in
    rw same (other_said (asked_by c.in-Some.words) _ _ _ c.dump-ended.result c.dump-ended.ensures.said (rw c.exit_status.ensures at other) t)

pub returns-clause-unchanged : goal.returns-clause-unchanged
returns-clause-unchanged g c = λ other. other_failed c.dump-ended.result _ c.dump-ended.ensures.unchanged (rw c.exit_status.ensures at other)
