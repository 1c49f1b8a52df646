use Rattle.std.proofs.Common.{◌≡◌, ◌+◌, ◌-◌, ap, arith, refl, take, drop, length, length-drop}
use Rattle.std.proofs.lemmas.List.{length-take-le}
use Rattle.statement_splitter.specs.Splits.{Split}
use Rattle.statement_splitter.proofs.Wholes.{nothing_written, written_on, fed_even, all_written}
use Rattle.splitter_tests.proofs.whole_files.divided.Goals as goal

pub cuts-init : goal.cuts-init
cuts-init c =
    rw (c.new-out.ensures.items, c.new-splitter.ensures) record {
      inside = omega arith;
      same = λ more. refl;
      none = nothing_written;
      even = omega arith;
    }

pub cuts-preserved : goal.cuts-preserved
cuts-preserved c =
    let at = c.cuts.at in
    let size = c.min-size.result in
    let count : at + size - at ≡ size = omega arith in
    let fed = ap (λ (split : Split). split.unread) c.in_ok-feed.ensures.ok in
    record {
      inside = omega arith;
      same = written_on c.args.file.now at size c.cuts.splitter.unread c.feed.new.self.unread c.take_all.new.splitter.unread c.cuts.out.items c.take_all.new.out.items _ (ap (λ n. take n (drop at c.args.file.now)) count) fed c.cuts.invariant.same c.in_ok-take_all.ensures.writes;
      none = c.in_ok-take_all.ensures.writes.none;
      even = omega (arith, c.in_ok-take_all.ensures.even, fed_even c.cuts.splitter.unread c.feed.new.self.unread _ fed, c.cuts.invariant.even, length-take-le size (drop at c.args.file.now) (omega (arith, length-drop at c.args.file.now)), ap (λ n. length (take n (drop at c.args.file.now))) count);
    }

pub returns : goal.returns
returns c = all_written c.args.file.now c.cuts.at c.cuts.splitter.unread c.cuts.out.items c.cuts-test.false c.cuts.invariant.none c.cuts.invariant.same
