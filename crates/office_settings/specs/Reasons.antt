-- The reasons in words. Source: own.
use Rattle.std.specs.Prelude.{ℕ, List, codes}
use Rattle.office_settings.specs.declared.wrong.Wrong.{Wrong}
use Rattle.office_settings.specs.declared.wrong.Wrong.TheVariants.{Beginning, RoleLine, Role, Condition, NothingFollows, SentActs, Act, Thing, Class, NameLine, Name, Rule, Number, Limit, Keep, Journal, Site, Zone, Mark, NotUtf8, BeginBelow, AfterEnd, EndAlone, SetTwice, SignedText, Alike, CutOff, UnknownRole, NoRole, NoSite, NoZone}

-- the text of each reason
abbrev pub reason : Wrong → List ℕ
reason Beginning = codes "no line begins with this word"
reason RoleLine = codes "write: role ROLE may ACT.. [in CLASS..], or role ROLE reads THING.. [in CLASS..] [if sent]"
reason Role = codes "a role has 1 to 32 small letters, digits and hyphens"
reason Condition = codes "after 'if' only 'sent' is known"
reason NothingFollows = codes "nothing follows 'in' or 'if'"
reason SentActs = codes "'if sent' is for what is read"
reason Act = codes "there is no such kind of act"
reason Thing = codes "there is no such thing to read"
reason Class = codes "a class has letters, digits and hyphens, and a star at its end for all that begin so"
reason NameLine = codes "write: name NAME is ROLE.. [in CLASS..], or name NAME signs TEXT"
reason Name = codes "a name has letters, digits and . _ @ -, or it is * for all other names"
reason Rule = codes "there is no such rule"
reason Number = codes "there is no number, or it is too small or too great"
reason Limit = codes "write: limit requests N, limit lists N, or limit journal-bytes N"
reason Keep = codes "write: keep contents DAYS, or keep free MEGABYTES"
reason Journal = codes "write: journal readings, or journal acts"
reason Site = codes "a site is an address such as https://records.city.example, without a path"
reason Zone = codes "a time zone is a word such as Europe/Berlin"
reason Mark = codes "'begin' and 'end' have a line of their own"
reason NotUtf8 = codes "this is no UTF-8"
reason BeginBelow = codes "'begin' stands above all other statements"
reason AfterEnd = codes "no statement stands below 'end'"
reason EndAlone = codes "no 'begin' stands above this 'end'"
reason SetTwice = codes "this is set already above"
reason SignedText = codes "a text that is signed has at most 200 bytes, all of them printable"
reason Alike = codes "this looks like another name of a line above, or like its text"
reason CutOff = codes "the file is cut off: it has 'begin', but no 'end'"
reason UnknownRole = codes "no line says what one of these roles may do"
reason NoRole = codes "this name signs, but no line says which role it is"
reason NoSite = codes "there is no line 'site'"
reason NoZone = codes "there is no line 'zone'"
