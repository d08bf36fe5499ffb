-- What the sections of a volume group describe, and the roles that logical volumes have for snapshots.
pub mod Group
pub mod GroupCode
pub mod GroupFields
pub mod Owners
pub mod OwnersCode
pub mod PhysicalFields
pub mod RoleCode
pub mod Roles
pub mod TypeName
