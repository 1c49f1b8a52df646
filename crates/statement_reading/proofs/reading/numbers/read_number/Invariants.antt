use Rattle.std.proofs.Common.{length, ◌-◌, ◌≡◌, ◌<◌, ◌≤◌, take, decimal}
use Rattle.statement_reading.proofs.reading.numbers.read_number.Given as goal

abbrev pub invariant-digits : goal.invariant-digits
invariant-digits l = record {
  within : l.size ≤ length l.bytes;
  some : 0 < l.size;
  text : take l.size l.bytes ≡ decimal l.value;
  least : l.least ≤ l.value;
  below : l.value < l.limit;
}

abbrev pub decreases-digits : goal.decreases-digits
decreases-digits l = length l.bytes - l.size
