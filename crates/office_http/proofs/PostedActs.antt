-- A head that is served as acts has the method POST.
use Rattle.std.proofs.Common.{◌≡◌, ap, refl, ℕ, List, Bool, true, false, Option, Some, None, codes, cond, bytes_eq, map}
use Rattle.std.proofs.lemmas.Slice.Eq.{bytes_eq-Decides}
use Rattle.httparse.specs.Grammar.{RequestHead}
use Rattle.httparse.specs.Spans.{name_and_value}
use Rattle.office_http.specs.Fields.{found_named}
use Rattle.office_http.specs.Paths.{is_path, route_at}
use Rattle.office_http.specs.RequestPlans.{acts_plan, get_plan, has_host, is_head_method, path_plan, plan_at, route_plan, target_plan}
use Rattle.office_http.specs.declared.rejection.Rejection.{Rejection}
use Rattle.office_http.specs.declared.rejection.Rejection.TheVariants as rejections
use Rattle.office_http.specs.declared.paths.Route.{Route}
use Rattle.office_http.specs.declared.paths.Route.TheVariants as named_routes
use Rattle.office_http.specs.declared.request_plan.RequestPlan.{RequestPlan}
use Rattle.office_http.specs.declared.request_plan.RequestPlan.TheVariants.{Acts, Refuse, Serve}
use Rattle.office_http.specs.declared.path_request.PathRequest.{PathRequest}
use Rattle.office_http.specs.declared.path_request.PathRequest.TheVariants as requests

-- a plan to do acts is one for POST
abbrev IsPosted : List ℕ → RequestPlan → Type 0
IsPosted method plan = (size : ℕ) → plan ≡ Acts size → bytes_eq method (codes "POST") ≡ true

refused : (method : List ℕ) (check : Rejection) → IsPosted method (Refuse check)
refused method check size same = cc

chosen : (method : List ℕ) (b : Bool) (p q : RequestPlan) → IsPosted method p → IsPosted method q → IsPosted method (cond b p q)
chosen method true p q is isnt = is
chosen method false p q is isnt = isnt

posted : (method : List ℕ) (b : Bool) (plan : RequestPlan) (check : Rejection) → bytes_eq method (codes "POST") ≡ b → IsPosted method (cond b plan (Refuse check))
posted method true plan check post size same = post
posted method false plan check post size same = cc

got : (method : List ℕ) (request : PathRequest) → IsPosted method (get_plan method (Serve request))
got method request = chosen method (bytes_eq method (codes "GET")) (Serve request) (Refuse rejections.NotGet) (λ size same. cc) (refused method rejections.NotGet)

route_posted : (route : Route) (path method : List ℕ) (fields : List (List ℕ × List ℕ)) → IsPosted method (route_plan route path method fields)
route_posted named_routes.Acts path method fields = posted method (bytes_eq method (codes "POST")) (acts_plan fields) rejections.NotPost refl
route_posted named_routes.Resume path method fields = posted method (bytes_eq method (codes "POST")) (Serve requests.Resume) rejections.NotPost refl
route_posted named_routes.Record path method fields = got method _
route_posted named_routes.Content path method fields = got method _
route_posted named_routes.Due path method fields = got method _
route_posted named_routes.Overdue path method fields = got method _
route_posted named_routes.Certificate path method fields = got method _

path_posted : (route : Option Route) (path method : List ℕ) (fields : List (List ℕ × List ℕ)) → IsPosted method (path_plan route path method fields)
path_posted None path method fields = refused method rejections.Path
path_posted (Some route) path method fields = route_posted route path method fields

plan_posted : (h : RequestHead) → IsPosted h.method (plan_at h)
plan_posted h =
    let fields = map name_and_value h.fields in
    chosen h.method (has_host h.minor (found_named (codes "host") fields)) (target_plan h.target h.method fields) (Refuse rejections.Host)
    (chosen h.method (is_path h.target) (path_plan (route_at h.target) h.target h.method fields) (Refuse rejections.Path) (path_posted (route_at h.target) h.target h.method fields) (refused h.method rejections.Path))
    (refused h.method rejections.Host)

no_head : (method : List ℕ) → method ≡ codes "POST" → is_head_method method ≡ false
no_head method same = ap is_head_method same

-- so it is not HEAD
pub acts_are_no_head : (h : RequestHead) (size : ℕ) → plan_at h ≡ Acts size → is_head_method h.method ≡ false
acts_are_no_head h size same = no_head h.method ((bytes_eq-Decides h.method (codes "POST")).0 (plan_posted h size same))
