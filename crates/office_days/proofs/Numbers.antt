-- Months of the year have the numbers from 1 to 12.
use Rattle.std.proofs.Common.{arith}
use Rattle.std.specs.Int.{IsInRange}
use Rattle.office_days.specs.declared.month.Month.{Month}
use Rattle.office_days.specs.declared.month.Month.TheVariants.{January, February, March, April, May, June, July, August, September, October, November, December}
use Rattle.office_days.specs.Offsets.{month_number}

pub month_number-in_year : (m : Month) → IsInRange 1 12 (month_number m)
month_number-in_year January = (omega arith, omega arith)
month_number-in_year February = (omega arith, omega arith)
month_number-in_year March = (omega arith, omega arith)
month_number-in_year April = (omega arith, omega arith)
month_number-in_year May = (omega arith, omega arith)
month_number-in_year June = (omega arith, omega arith)
month_number-in_year July = (omega arith, omega arith)
month_number-in_year August = (omega arith, omega arith)
month_number-in_year September = (omega arith, omega arith)
month_number-in_year October = (omega arith, omega arith)
month_number-in_year November = (omega arith, omega arith)
month_number-in_year December = (omega arith, omega arith)
