-- When two records are the same in all that they hold, and two views.
use Rattle.std.specs.Prelude.{ℕ, Bool, true, false, not, cond, ◌&&◌, ◌==◌, List, Option, None, Some}
use Rattle.std.specs.Ordering.{is_eq}
use Rattle.std.specs.Cmp.Lexicographic.{pointwise}
use Rattle.record_model.specs.declared.value.Value.{Value}
use Rattle.record_model.specs.ValueOrder.{value_cmp}
use Rattle.share_records.specs.declared.participant.Participant.{Participant}
use Rattle.share_records.specs.declared.share.Share.{Share as ShareOf}
use Rattle.share_records.specs.Permissions.{is_public, same_permission}
use Rattle.record_model.specs.declared.records.Stamp.{Stamp}
use Rattle.record_model.specs.declared.records.Body.{Body}
use Rattle.record_model.specs.declared.records.Body.TheVariants.{Plain, Share}
use Rattle.record_model.specs.declared.records.Record.{Record}
use Rattle.record_model.specs.declared.view.View.{View}
use Rattle.zone_model.specs.Names.{same, same_option}

abbrev pub same_bool : Bool → Bool → Bool
same_bool a b = cond a b (not b)

abbrev pub same_participant : Participant → Participant → Bool
same_participant a b = same a.user b.user && (same_bool (is_public a.kind) (is_public b.kind) && (same_permission a.permission b.permission && same_bool a.accepted b.accepted))

abbrev pub same_share : ShareOf → ShareOf → Bool
same_share a b = same a.root b.root && (same a.guid b.guid && (same_permission a.public b.public && pointwise same_participant a.participants b.participants))

abbrev pub same_body : Body → Body → Bool
same_body Plain Plain = true
same_body (Share a) (Share b) = same_share a b
same_body _ _ = false

-- values that stand at one place of their order
abbrev pub same_value : Value → Value → Bool
same_value a b = is_eq (value_cmp a b)

abbrev pub same_field : List ℕ × Value → List ℕ × Value → Bool
same_field a b = same a.0 b.0 && same_value a.1 b.1

abbrev pub same_stamp : Stamp → Stamp → Bool
same_stamp a b = (a.moment == b.moment) && same a.user b.user

abbrev pub same_record : Record → Record → Bool
same_record a b =
    same a.name b.name && (same a.rtype b.rtype && ((a.tag == b.tag) && (same_option a.parent b.parent && (same_option a.share b.share
    && (pointwise same_field a.fields b.fields && (same_stamp a.created b.created && (same_stamp a.modified b.modified && same_body a.body b.body)))))))

-- the zone is here in both or in neither, and the records are the same
abbrev pub same_view : View → View → Bool
same_view v w = same_bool v.here w.here && pointwise same_record v.rows w.rows

-- a record or none, both times the same
abbrev pub same_found : Option Record → Option Record → Bool
same_found None None = true
same_found (Some a) (Some b) = same_record a b
same_found _ _ = false
