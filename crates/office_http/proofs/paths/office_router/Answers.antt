use Rattle.std.proofs.Common.{◌≡◌, IfOk, [], codes, subst, refl}
use Rattle.office_http.specs.Paths.{RouteList, office_routes, with_route}
use Rattle.office_http.specs.declared.paths.Route.TheVariants.{Acts, Resume, Record, Content, Due, Overdue, Certificate}
use Rattle.office_http.proofs.paths.office_router.Goals as goal

pub returns : goal.returns
unfolding office_routes
returns c =
    let others : c.in_ok-router-6.router ≡ with_route (codes "/overdue/{day}/{count}") Overdue (with_route (codes "/due/{day}") Due (with_route (codes "/records/{n}/content") Content (with_route (codes "/records/{n}") Record (with_route (codes "/run/resume") Resume (with_route (codes "/acts") Acts []))))) = rw (c.in_ok-router-6.ensures, c.in_ok-router-5.ensures, c.in_ok-router-4.ensures, c.in_ok-router-3.ensures, c.in_ok-router-2.ensures, c.in_ok-router.ensures, c.new.ensures) refl in
    subst (λ (routes : RouteList). IfOk c.with_route-7.result (λ made. made ≡ with_route (codes "/certificates/{n}") Certificate routes)) others c.with_route-7.ensures
