-- "For each input .. it allows one result": of each public function's contract, as the check reads it.
use mathlib.Core.Path.{sym, ◌∙◌}
use Rattle.integers.specs.Outcome.{OneResult}
use Rattle.orientation.proofs.span.Reads as span
use Rattle.orientation.proofs.determinant.Reads as determinant
use Rattle.orientation.proofs.orient.Reads as orient
use Rattle.orientation.proofs.Orientation.reverse.Reads as reverse
use Rattle.orientation.proofs.Orientation.is_ccw.Reads as is_ccw
use Rattle.orientation.proofs.Orientation.is_cw.Reads as is_cw
use Rattle.orientation.proofs.Orientation.is_colinear.Reads as is_colinear

span_once : OneResult span.Post
span_once κs a r r' s s' h k = h ∙ sym k

determinant_once : OneResult determinant.Post
determinant_once κs a r r' s s' h k = h ∙ sym k

orient_once : OneResult orient.Post
orient_once κs a r r' s s' h k = h ∙ sym k

reverse_once : OneResult reverse.Post
reverse_once κs a r r' s s' h k = h ∙ sym k

is_ccw_once : OneResult is_ccw.Post
is_ccw_once κs a r r' s s' h k = h ∙ sym k

is_cw_once : OneResult is_cw.Post
is_cw_once κs a r r' s s' h k = h ∙ sym k

is_colinear_once : OneResult is_colinear.Post
is_colinear_once κs a r r' s s' h k = h ∙ sym k
