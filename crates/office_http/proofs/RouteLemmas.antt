-- A route that was taken has its place among the others.
use Rattle.std.proofs.Common.{◌≡◌, inl, inr, Result, Ok, Err}
use Rattle.matchit.specs.Router.{InsertsRead}
use Rattle.matchit.specs.Route.{Scan}
use Rattle.matchit.specs.declared.error.InsertError.{InsertError}
use Rattle.office_http.specs.Paths.{RouteList, with_scanned}
use Rattle.office_http.specs.declared.paths.Route.{Route}

pub route_inserted : (read : Result Scan InsertError) (route : Route) (old new : RouteList) (u : Unit {0}) → InsertsRead read route old new (Ok u) → new ≡ with_scanned read route old
route_inserted (Ok s) route old new u h = h.1
route_inserted (Err e) route old new u h = elim h.1 [
  | inl p ↦ cc
  | inr p ↦ cc
]
