use Rattle.std.proofs.Common.{length}
use Rattle.office_http.proofs.fields.+find_named.Given as goal

abbrev pub decreases-find_named : goal.decreases-find_named
decreases-find_named l = length l.headers.now
