-- A share after a request.
use Rattle.std.specs.Prelude.{unwrap_or}
use Rattle.std.specs.Option.{option_map_or}
use Rattle.share_records.specs.declared.share.Share.{Share as ShareOf}
use Rattle.share_records.specs.ShareLists.{rewritten}
use Rattle.record_model.specs.declared.draft.Draft.{Draft}

-- the share after a put, which leaves what it doesn't give
abbrev pub share_after : ShareOf → Draft → ShareOf
share_after s d = record {
  root = s.root;
  guid = s.guid;
  public = unwrap_or d.public s.public;
  participants = option_map_or (rewritten s.participants) d.participants s.participants;
}
