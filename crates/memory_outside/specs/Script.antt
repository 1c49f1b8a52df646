-- The calls that are to fail, and the counts of those that did.
use Rattle.std.specs.Prelude.{◌≡◌, ℕ, Bool, false, List, Result, OnOk, OnErr, ◌+◌, ◌-◌, ◌*◌, ◌^◌, ◌==◌, min, if◌then◌else◌}
use Rattle.std.specs.List.{list_any}

-- the numbers of the calls that are to fail and the number of the next call; how many failures were
-- asked for or could not be helped, and how many were for want of memory
pub record Counts : Type 0 where
  pub failing : List ℕ
  pub call : ℕ
  pub listed : ℕ
  pub wanting : ℕ

-- a script at its start
abbrev pub script_of : List ℕ → ℕ → Counts
script_of failing call = record { failing = failing; call = call; listed = 0; wanting = 0 }

-- a count, which stops at its last value
abbrev pub at_most_count : ℕ → ℕ
at_most_count count = min count (2 ^ 64 - 1)

-- all failures
abbrev pub faults_of : Counts → ℕ
faults_of counts = at_most_count (counts.listed + counts.wanting)

-- the number by which a call of an object is listed
abbrev pub number_of : ℕ → ℕ → ℕ
number_of object call = at_most_count (object * 1000000 + call)

-- whether the next call is to fail
abbrev pub is_listed : Counts → Bool
is_listed counts = list_any (λ number. number == counts.call) counts.failing

-- a failure that was asked for, or that could not be helped
abbrev pub after_fault : Counts → Counts
after_fault counts = record counts { listed = at_most_count (counts.listed + 1) }

-- a failure for want of memory
abbrev pub after_want : Counts → Counts
after_want counts = record counts { wanting = at_most_count (counts.wanting + 1) }

-- the next call was made, and counted as a failure if it is listed
abbrev pub after_call : Counts → Counts
after_call counts = record counts {
  call = at_most_count (counts.call + 1);
  listed = if is_listed counts then at_most_count (counts.listed + 1) else counts.listed;
}

-- the failures of another object are added
abbrev pub sum_of_counts : Counts → Counts → Counts
sum_of_counts counts others = record counts {
  listed = at_most_count (counts.listed + others.listed);
  wanting = at_most_count (counts.wanting + others.wanting);
}

-- what a failed call is counted as: it was listed, it could not be helped, or memory was wanting
abbrev pub after_failure : Counts → Bool → Counts
after_failure counts unavoidable =
    if is_listed counts then after_call counts
    else (if unavoidable then after_fault (after_call counts) else after_want (after_call counts))

-- a call is counted; it fails where it is listed or can't be helped, and else only for want of memory
pub record Counted {T E : Type 0} (old : Counts) (unavoidable : Bool) (result : Result T E)
    (new : Counts) : Type 0 where
  pub ok : OnOk result (new ≡ after_call old)
  pub unlisted : OnOk result (is_listed old ≡ false)
  pub avoidable : OnOk result (unavoidable ≡ false)
  pub err : OnErr result (new ≡ after_failure old unavoidable)
